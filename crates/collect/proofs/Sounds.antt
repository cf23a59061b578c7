-- The parts of a sound collection, and a sound collection made of them.
use Prim.Native.Nat.{ℕ, zero, suc, ◌+◌, ◌-◌, ◌≤◌, ◌<◌}
use mathlib.Core.List.{List, [], ◌∷◌}
use mathlib.Core.Bool.{Bool, true, false, not}
use mathlib.Core.Path.{◌≡◌, refl, sym, ap, ◌∙◌}
use native.Mathlib.Omega.{arith}
use lib.Dec.{eqb, ltb, leb}
use lib.ListN.{get_or, drop}
use borrow.Author.Tests.{ltb-true, leb-true, eqb-false, ne_eqb, lt-ltb, le-leb, not-true}
use Rattle.basis.specs.Choice.{when, ◌and◌}
use Rattle.basis.proofs.Choices.{and_parts, and_true, when_false}
use Rattle.completed.specs.Completed.{has_of}
use Rattle.completed.specs.declared.Completed.{Completed}
use Rattle.collect.specs.Slots.{rule_of, held_of, slots_of, begun_of, none_of}
use Rattle.collect.specs.Sound.{id_of, some_of, sound_of}
use Rattle.collect.specs.Slots.{Collection}
use Rattle.collect.proofs.Turns.{rule_most}
use Rattle.collect.proofs.Joined.{first}

-- what holds of a collection that isn't none
pub record Collecting (completed : Completed) (c : Collection) : Type 0 where
  pub known : c.id ≤ 0x3F
  pub other : has_of completed c.id ≡ false
  pub most : c.total ≤ 6
  pub some : held_of c.lens ≡ 0 → ⊥
  pub missing : held_of c.lens < c.total

unequal : (a b : ℕ) → not (eqb a b) ≡ true → a ≡ b → ⊥
unequal a b e = eqb-false a b (not-true (eqb a b) e)

pub sound_slots : (completed : Completed) (c : Collection) → sound_of completed c ≡ true → slots_of c.total 0 c.lens c.room ≡ true
unfolding sound_of
sound_slots completed c e =
    (and_parts (when (eqb c.total 0) (eqb c.id 0) (id_of completed c and leb c.total 6 and some_of c)) (slots_of c.total 0 c.lens c.room) e).1

pub sound_collecting : (completed : Completed) (c : Collection) → (c.total ≡ 0 → ⊥) → sound_of completed c ≡ true → Collecting completed c
unfolding sound_of
sound_collecting completed c busy e =
    let h = held_of c.lens in
    let p = (and_parts (when (eqb c.total 0) (eqb c.id 0) (id_of completed c and leb c.total 6 and some_of c)) (slots_of c.total 0 c.lens c.room) e).0 in
    let q = sym (when_false (eqb c.total 0) (eqb c.id 0) (id_of completed c and leb c.total 6 and some_of c) (ne_eqb c.total 0 busy)) ∙ p in
    let a = and_parts (id_of completed c) (leb c.total 6 and some_of c) q in
    let i = and_parts (leb c.id 0x3F) (not (has_of completed c.id)) a.0 in
    let t = and_parts (leb c.total 6) (some_of c) a.1 in
    let s = and_parts (not (eqb h 0)) (ltb h c.total) t.1 in
    record {
      known = leb-true c.id 0x3F i.0;
      other = not-true (has_of completed c.id) i.1;
      most = leb-true c.total 6 t.0;
      some = unequal h 0 s.0;
      missing = ltb-true h c.total s.1;
    }

pub collecting_sound : (completed : Completed) (c : Collection) → (c.total ≡ 0 → ⊥) → Collecting completed c
    → slots_of c.total 0 c.lens c.room ≡ true → sound_of completed c ≡ true
unfolding sound_of
collecting_sound completed c busy p slots =
    let h = held_of c.lens in
    let i : id_of completed c ≡ true = and_true (leb c.id 0x3F) (not (has_of completed c.id)) (le-leb c.id 0x3F p.known) (ap not p.other) in
    let s : some_of c ≡ true = and_true (not (eqb h 0)) (ltb h c.total) (ap not (ne_eqb h 0 p.some)) (lt-ltb h c.total p.missing) in
    let t : leb c.total 6 ≡ true = le-leb c.total 6 p.most in
    let all = and_true (id_of completed c) (leb c.total 6 and some_of c) i (and_true (leb c.total 6) (some_of c) t s) in
    and_true _ _ (when_false (eqb c.total 0) (eqb c.id 0) (id_of completed c and leb c.total 6 and some_of c) (ne_eqb c.total 0 busy) ∙ all) slots

-- an empty slot obeys the rules everywhere
rule_none : (total position : ℕ) → rule_of total position 0 ≡ true
rule_none total position = go (leb total position) (leb (total - position) 1)
  where
    go : (a b : Bool) → when a true (when b true true) ≡ true
    go true b = refl
    go false true = refl
    go false false = refl

-- so does a collection that holds nothing yet
pub begun_slots : (id total : ℕ) → slots_of total 0 (begun_of id total).lens (begun_of id total).room ≡ true
unfolding slots_of begun_of
begun_slots id total =
    and_true _ _ (rule_none total 0)
    (and_true _ _ (rule_none total 1)
    (and_true _ _ (rule_none total 2)
    (and_true _ _ (rule_none total 3) (and_true _ _ (rule_none total 4) (and_true _ _ (rule_none total 5) refl)))))

-- none collected is sound
pub none_sound : (completed : Completed) → sound_of completed none_of ≡ true
unfolding sound_of slots_of begun_of
none_sound completed = refl

-- no slot holds more than 14 bytes
pub slots_most : (total position : ℕ) (lens room : List ℕ) (i : ℕ) → slots_of total position lens room ≡ true → get_or lens i 0 ≤ 14
slots_most total position [] room i e = omega arith
slots_most total position (len ∷ lens) room zero e = rule_most total position len (first total position len lens room e).rule
slots_most total position (len ∷ lens) room (suc i) e = slots_most total (position + 1) lens (drop 14 room) i (first total position len lens room e).rest
