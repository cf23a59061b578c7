-- A packet placed: the collection has room for it, what is then stored stays right, and what is whole is released.
use Prim.Native.Nat.{ℕ, ◌+◌, ◌-◌, ◌*◌, ◌≤◌, ◌<◌}
use mathlib.Core.List.{List, ◌++◌}
use mathlib.Core.Bool.{true}
use mathlib.Core.Path.{◌≡◌, sym, ap, ◌∙◌, subst}
use mathlib.Core.Logic.{dite}
use native.Mathlib.Decide.{dec_le}
use native.Mathlib.Omega.{arith}
use lib.Dec.{eqb, leb}
use lib.ListN.{length, get_or, take, set, replicate, get_or-replicate}
use borrow.Author.Tests.{le-leb, lt-leb}
use Rattle.basis.specs.Bytes.{laid}
use Rattle.basis.specs.Choice.{when, ◌or◌}
use Rattle.basis.proofs.Choices.{when_true, when_false}
use Rattle.basis.proofs.Laid.{take_laid}
use Rattle.judge.specs.Verdict.{Verdict, judge_of}
use Rattle.std.specs.Prelude.{Ok}
use Rattle.room.specs.Room.{room_of}
use Rattle.completed.specs.Completed.{added_of}
use Rattle.completed.specs.declared.Completed.{Completed}
use Rattle.collect.specs.Slots.{Collection, rule_of, held_of, slots_of, joined_of, begun_of, stored_of}
use Rattle.collect.proofs.Joined.{held_most, full_room}
use Rattle.collect.proofs.Kept.{slots_kept}
use Rattle.collect.proofs.Sounds.{begun_slots, slots_most}
use Rattle.hear.specs.Join.{Left, stay_of, body_in, whole_of, count_of, Right, Open, Whole}
use Rattle.hear.specs.declared.Outcome.TheVariants.{Stored, Released}

-- a collection that holds nothing has every position free
pub begun_open : (id total position len : ℕ) → Right total position len → Open (begun_of id total) position len
unfolding begun_of
begun_open id total position len r =
    record { right = r; slots = begun_slots id total; free = get_or-replicate 6 position 0 0 (omega (arith, r.below, r.most)) }

-- a right packet obeys the rule of its slot
right_rule : (total position len : ℕ) → Right total position len → rule_of total (0 + position) len ≡ true
right_rule total position len r =
    let z : 0 + position ≡ position = omega arith in
    ap (λ (p : ℕ). rule_of total p len) z
    ∙ when_false (leb total position) (eqb len 0) (when (leb (total - position) 1) (leb len 14) (eqb len 0 or eqb len 14)) (lt-leb total position r.below)
    ∙ dite (dec_le (total - position) 1)
    (λ last. when_true (leb (total - position) 1) (leb len 14) (eqb len 0 or eqb len 14) (le-leb (total - position) 1 last) ∙ le-leb len 14 r.few)
    (λ more.
    let few : position + 1 < total = omega arith in
    when_false (leb (total - position) 1) (leb len 14) (eqb len 0 or eqb len 14) (lt-leb (total - position) 1 (omega arith))
    ∙ ap (λ (n : ℕ). eqb n 0 or eqb n 14) (r.full few))

module _ (c : Collection) (position : ℕ) (part : List ℕ) (lens : length c.lens ≡ 6) (room : length c.room ≡ 84)
    (o : Open c position (length part)) where
  -- the slots stay right
  pub stored_slots : slots_of c.total 0 (stored_of c position part).lens (stored_of c position part).room ≡ true
  unfolding stored_of
  stored_slots =
      slots_kept c.total 0 position c.lens c.room part o.slots (omega (arith, o.right.below, o.right.most)) (omega arith) o.free o.right.few
      (right_rule c.total position (length part) o.right)

  pub stored_whole : (n : Collection) → n ≡ stored_of c position part → n.total ≤ held_of n.lens → Whole n
  unfolding stored_of
  stored_whole n e full =
      let held : c.total ≤ held_of (set c.lens position (length part)) = subst (λ (x : Collection). x.total ≤ held_of x.lens) e full in
      subst (λ (x : Collection). Whole x) (sym e)
      (record { least = o.right.least; most = o.right.most; slots = stored_slots; full = held })

-- lengths and room with the packet in them
pub stored_is : (c : Collection) (position : ℕ) (part x : List ℕ) → x ≡ laid (take (14 * position) c.room ++ part) c.room
    → ◌≡◌ {A = Collection} (record { id = c.id; total = c.total; lens = set c.lens position (length part); room = x }) (stored_of c position part)
unfolding stored_of
stored_is c position part x e =
    ap (λ (y : List ℕ). record { id = c.id; total = c.total; lens = set c.lens position (length part); room = y }) e

-- not all are held: Stored; all are held: Released
pub counted_less : (completed : Completed) (n c : Collection) (l : Left) → n ≡ c → held_of n.lens < n.total → l ≡ stay_of completed n (Ok Stored) → l ≡ count_of completed c
counted_less completed n c l e h q =
    q
    ∙ sym (when_false (leb n.total (held_of n.lens)) (whole_of completed n) (stay_of completed n (Ok Stored)) (lt-leb n.total (held_of n.lens) h))
    ∙ ap (count_of completed) e

pub counted_full : (completed : Completed) (n c : Collection) (l : Left) → n ≡ c → n.total ≤ held_of n.lens → l ≡ whole_of completed n → l ≡ count_of completed c
counted_full completed n c l e h q =
    q
    ∙ sym (when_true (leb n.total (held_of n.lens)) (whole_of completed n) (stay_of completed n (Ok Stored)) (le-leb n.total (held_of n.lens) h))
    ∙ ap (count_of completed) e

-- of a whole collection the room is the body with zeros after it
module _ (c : Collection) (lens : length c.lens ≡ 6) (room : length c.room ≡ 84) (w : Whole c) where
  pub whole_len : 14 * (c.total - 1) + get_or c.lens (c.total - 1) 0 ≤ 84
  whole_len = omega (arith, slots_most c.total 0 c.lens c.room (c.total - 1) w.slots, w.most, w.least)

  all_held : held_of c.lens ≡ c.total - 0
  all_held = omega (arith, held_most c.total 0 c.lens c.room w.slots, w.full)

  pub whole_size : length (joined_of c.lens c.room) ≡ 14 * (c.total - 1) + get_or c.lens (c.total - 1) 0
  whole_size = (full_room c.total 0 c.lens c.room (omega (arith, w.least)) (omega (arith, w.most)) w.slots all_held (omega arith)).size

  pub whole_room : room_of (joined_of c.lens c.room) ≡ c.room
  unfolding room_of
  whole_room =
      ap (λ (n : ℕ). laid (joined_of c.lens c.room) (replicate n 0)) (sym room)
      ∙ (full_room c.total 0 c.lens c.room (omega (arith, w.least)) (omega (arith, w.most)) w.slots all_held (omega arith)).whole

  pub whole_body : take (14 * (c.total - 1) + get_or c.lens (c.total - 1) 0) c.room ≡ joined_of c.lens c.room
  unfolding room_of
  whole_body =
      ap (λ (n : ℕ). take n c.room) (sym whole_size)
      ∙ ap (take (length (joined_of c.lens c.room))) (sym whole_room)
      ∙ take_laid (joined_of c.lens c.room) (replicate 84 0)

-- what the code leaves of it
pub whole_left : (completed : Completed) (c : Collection) (v : Verdict) (len : ℕ) → room_of (joined_of c.lens c.room) ≡ c.room
    → v ≡ judge_of (joined_of c.lens c.room)
    → len ≡ length (joined_of c.lens c.room)
    → ◌≡◌ {A = Left} (record { outcome = Ok (Released v len); completed = added_of completed c.id; collection = record { id = 0; total = 0; lens = replicate 6 0; room = c.room } }) (whole_of completed c)
whole_left completed c v len er ev el =
    ap (λ (x : List ℕ). record { outcome = Ok (Released v len); completed = added_of completed c.id; collection = record { id = 0; total = 0; lens = replicate 6 0; room = x } }) (sym er)
    ∙ ap (λ (x : Verdict). record { outcome = Ok (Released x len); completed = added_of completed c.id; collection = body_in (joined_of c.lens c.room) }) ev
    ∙ ap (λ (n : ℕ). record { outcome = Ok (Released (judge_of (joined_of c.lens c.room)) n); completed = added_of completed c.id; collection = body_in (joined_of c.lens c.room) }) el
