-- A packet and the collection that it goes into: its position has room, or holds what decides.
use Prim.Native.Nat.{ℕ, ◌≤◌}
use mathlib.Core.List.{List}
use mathlib.Core.Bool.{Bool, true, false, not}
use mathlib.Core.Path.{◌≡◌, refl, sym, ap, ◌∙◌, subst}
use native.Mathlib.Omega.{arith}
use lib.Dec.{eqb}
use lib.ListN.{length, get_or, replicate, get_or-replicate}
use borrow.Author.Tests.{eq-eqb, ne_eqb}
use Rattle.basis.specs.Choice.{when}
use Rattle.basis.proofs.Choices.{when_false}
use Rattle.std.specs.Prelude.{Result, Ok, Err}
use Rattle.refusal.specs.declared.Refusal.{Refusal}
use Rattle.refusal.specs.declared.Refusal.TheVariants.{Busy, OtherPacket}
use Rattle.completed.specs.Completed.{has_of}
use Rattle.completed.specs.declared.Completed.{Completed}
use Rattle.collect.specs.Slots.{Collection, same_of, slots_of, begun_of, stored_of}
use Rattle.collect.specs.Sound.{sound_of}
use Rattle.collect.proofs.Sounds.{begun_slots, sound_slots, slots_most}
use Rattle.hear.specs.Join.{slot_of, goes_by, begins_of, taking_of, join_by, Left, stay_of, count_of, Right, Open}
use Rattle.hear.specs.declared.Outcome.{Outcome}
use Rattle.hear.specs.declared.Outcome.TheVariants.{Repeat}

-- a free position takes a right packet
pub into_open : (c : Collection) (total position len : ℕ) → slots_of c.total 0 c.lens c.room ≡ true → c.total ≡ total → Right total position len
    → get_or c.lens position 0 ≡ 0 → Open c position len
into_open c total position len e same right free =
    record { right = subst (λ (n : ℕ). Right n position len) (sym same) right; slots = e; free = free }

-- the collection that a packet goes into has sound slots
pub taking_slots : (completed : Completed) (d : Collection) (id total : ℕ) (c : Collection) → sound_of completed d ≡ true → c ≡ taking_of d id total
    → slots_of c.total 0 c.lens c.room ≡ true
unfolding begun_of
taking_slots completed d id total c e w =
    subst (λ (x : Collection). slots_of x.total 0 x.lens x.room ≡ true) (sym w) (go (begins_of d id))
  where
    go : (t : Bool)
        → slots_of (when t (begun_of id total) d).total 0 (when t (begun_of id total) d).lens (when t (begun_of id total) d).room ≡ true
    go true = begun_slots id total
    go false = sound_slots completed d e

-- a packet that begins finds its position free
pub begun_goes : {A : Type 0} (stays : Result Outcome Refusal → A) (counted : Collection → A) (id total position : ℕ) (part : List ℕ) → Right total position (length part)
    → goes_by stays counted (begun_of id total) total position part ≡ counted (stored_of (begun_of id total) position part)
unfolding begun_of
begun_goes stays counted id total position part r =
    let free : get_or (replicate {A = ℕ} 6 0) position 0 ≡ 0 = get_or-replicate 6 position 0 0 (omega (arith, r.below, r.most)) in
    search (eq-eqb total total refl, eq-eqb (get_or (replicate {A = ℕ} 6 0) position 0) 0 free)

-- neither a repeat nor Busy: a packet is joined by what it goes into
pub join_into : (completed : Completed) (d : Collection) (len id total position : ℕ) (part : List ℕ) (c : Collection) (l : Left) → Right total position (length part)
    → has_of completed id ≡ false
    → len ≡ 0
    → c ≡ taking_of d id total
    → l ≡ goes_by (stay_of completed c) (count_of completed) c total position part
    → l ≡ join_by (stay_of completed d) (count_of completed) completed d len id total position part
join_into completed d len id total position part c l right other ready ec el =
    el
    ∙ ap (λ (x : Collection). goes_by (stay_of completed x) (count_of completed) x total position part) ec
    ∙ go (begins_of d id)
    ∙ sym (when_false (has_of completed id) (stay_of completed d (Ok Repeat)) _ other ∙ when_false (not (eqb len 0)) (stay_of completed d (Err Busy)) _ (ap not (eq-eqb len 0 ready)))
  where
    go : (t : Bool)
        → goes_by (stay_of completed (when t (begun_of id total) d)) (count_of completed) (when t (begun_of id total) d) total position part
        ≡ when t (count_of completed (stored_of (begun_of id total) position part)) (goes_by (stay_of completed d) (count_of completed) d total position part)
    go true = begun_goes (stay_of completed (begun_of id total)) (count_of completed) id total position part right
    go false = refl

-- what is held at a position has at most 14 bytes
pub held_most_14 : (c : Collection) (position : ℕ) → slots_of c.total 0 c.lens c.room ≡ true → get_or c.lens position 0 ≤ 14
held_most_14 c position e = slots_most c.total 0 c.lens c.room position e

-- a position that is held: equal data Repeat, other data 13
module _ {A : Type 0} (stays : Result Outcome Refusal → A) (counted : Collection → A) (c : Collection) (total position : ℕ) (part : List ℕ) (same : c.total ≡ total)
    (held : get_or c.lens position 0 ≡ 0 → ⊥) where
  held_goes : goes_by stays counted c total position part ≡ when (same_of (slot_of c position) part) (stays (Ok Repeat)) (stays (Err OtherPacket))
  held_goes =
      ap
      (λ (t : Bool).
      when (not t) (stays (Err OtherPacket))
      (when (eqb (get_or c.lens position 0) 0) (counted (stored_of c position part))
      (when (same_of (slot_of c position) part) (stays (Ok Repeat)) (stays (Err OtherPacket)))))
      (eq-eqb c.total total same)
      ∙ when_false (eqb (get_or c.lens position 0) 0) (counted (stored_of c position part))
      (when (same_of (slot_of c position) part) (stays (Ok Repeat)) (stays (Err OtherPacket)))
      (ne_eqb (get_or c.lens position 0) 0 held)

  pub goes_by_lem : (t u : Bool) (l : A) → t ≡ same_of (slot_of c position) part → t ≡ u → l ≡ when u (stays (Ok Repeat)) (stays (Err OtherPacket))
      → l ≡ goes_by stays counted c total position part
  goes_by_lem t u l e f q =
      let w : u ≡ same_of (slot_of c position) part = sym f ∙ e in
      q ∙ ap (λ (x : Bool). when x (stays (Ok Repeat)) (stays (Err OtherPacket))) w ∙ sym held_goes
