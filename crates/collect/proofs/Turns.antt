-- Slots one by one: what the loops over them go by.
use Prim.Native.Nat.{ℕ, ◌+◌, ◌-◌, ◌*◌, ◌≤◌, ◌<◌}
use mathlib.Core.List.{List, [], ◌∷◌, ◌++◌}
use mathlib.Core.Bool.{Bool, true, false}
use mathlib.Core.Path.{◌≡◌, refl, sym, ap, ◌∙◌}
use native.Mathlib.Numerals.{add-one}
use native.Mathlib.Omega.{arith}
use lib.Dec.{eqb, leb}
use lib.ListN.{length, get_or, take, drop, length-drop, drop_of_length-le, take-append-drop}
use lib.Seq.{drop-cons, drop-drop}
use borrow.Author.Tests.{leb-true, le-leb, eqb-true}
use Rattle.basis.proofs.Bytes.{drop_take}
use Rattle.basis.specs.Choice.{when, ◌and◌, ◌or◌}
use Rattle.basis.proofs.Choices.{when_true}
use Rattle.room.specs.Room.{zeros_of}
use Rattle.collect.specs.Slots.{rule_of, one_of, held_of, slots_of}

-- no slot holds more than 14 bytes
pub rule_most : (total position len : ℕ) → rule_of total position len ≡ true → len ≤ 14
rule_most total position len e = go (leb total position) (leb (total - position) 1) (eqb len 0) (eqb len 14) refl refl e
  where
    go : (a b z f : Bool) → eqb len 0 ≡ z → eqb len 14 ≡ f → when a z (when b (leb len 14) (z or f)) ≡ true → len ≤ 14
    go true b z f ez ef w = omega (arith, eqb-true len 0 (ez ∙ w))
    go false true z f ez ef w = leb-true len 14 w
    go false false true f ez ef w = omega (arith, eqb-true len 0 ez)
    go false false false f ez ef w = omega (arith, eqb-true len 14 (ef ∙ w))

-- what is left of the slots from a position on is the slot there and what is left behind it
pub slots_at : (total : ℕ) (lens room : List ℕ) (i : ℕ) → i < length lens
    → slots_of total i (drop i lens) (drop (14 * i) room)
    ≡ rule_of total i (get_or lens i 0)
    and zeros_of (take (14 - get_or lens i 0) (drop (14 * i + get_or lens i 0) room))
    and slots_of total (i + 1) (drop (i + 1) lens) (drop (14 * (i + 1)) room)
unfolding slots_of
slots_at total lens room i h =
    let len = get_or lens i 0 in
    let behind : 14 * i + 14 ≡ 14 * (i + 1) = omega arith in
    let rest : drop 14 (drop (14 * i) room) ≡ drop (14 * (i + 1)) room = drop-drop 14 (14 * i) room ∙ ap (λ (n : ℕ). drop n room) behind in
    let first : drop i lens ≡ len ∷ drop (i + 1) lens = rw (add-one i, drop-cons lens i 0) in
    ap (λ (l : List ℕ). slots_of total i l (drop (14 * i) room)) first
    ∙ ap
    (λ (d : List ℕ).
    rule_of total i len and zeros_of (take (14 - len) d) and slots_of total (i + 1) (drop (i + 1) lens) (drop 14 (drop (14 * i) room)))
    (drop-drop len (14 * i) room)
    ∙ ap
    (λ (d : List ℕ).
    rule_of total i len and zeros_of (take (14 - len) (drop (14 * i + len) room)) and slots_of total (i + 1) (drop (i + 1) lens) d)
    rest

-- the room behind a slot's data, as the code lends it
pub slot_cut : (room : List ℕ) (i len : ℕ) → len ≤ 14
    → zeros_of (take (14 - len) (drop (14 * i + len) room)) ≡ zeros_of (drop len (take (14 * i + 14 - 14 * i) (drop (14 * i) room)))
slot_cut room i len h =
    let e : 14 * i + 14 - 14 * i ≡ 14 = omega arith in
    sym
    (ap (λ (n : ℕ). zeros_of (drop len (take n (drop (14 * i) room)))) e
    ∙ ap zeros_of (drop_take len 14 (drop (14 * i) room) h)
    ∙ ap (λ (x : List ℕ). zeros_of (take (14 - len) x)) (drop-drop len (14 * i) room))

module _ (total : ℕ) (lens room : List ℕ) (i : ℕ) (within : i < length lens) where
  -- the slots from here on, by the rule of the first
  by_rule : (t : Bool) → rule_of total i (get_or lens i 0) ≡ t
      → slots_of total i (drop i lens) (drop (14 * i) room)
      ≡ t
      and zeros_of (take (14 - get_or lens i 0) (drop (14 * i + get_or lens i 0) room))
      and slots_of total (i + 1) (drop (i + 1) lens) (drop (14 * (i + 1)) room)
  by_rule t e =
      slots_at total lens room i within
      ∙ ap
      (λ (u : Bool).
      u
      and zeros_of (take (14 - get_or lens i 0) (drop (14 * i + get_or lens i 0) room))
      and slots_of total (i + 1) (drop (i + 1) lens) (drop (14 * (i + 1)) room))
      e

  pub slot_wrong : rule_of total i (get_or lens i 0) ≡ false → slots_of total i (drop i lens) (drop (14 * i) room) ≡ false
  slot_wrong e = by_rule false e

  -- a slot's data as the code cuts them off are right: its rule, then zeros behind them
  pub slot_clean : (t : Bool) → rule_of total i (get_or lens i 0) ≡ true
      → zeros_of (drop (get_or lens i 0) (take (14 * i + 14 - 14 * i) (drop (14 * i) room))) ≡ t
      → slots_of total i (drop i lens) (drop (14 * i) room) ≡ t and slots_of total (i + 1) (drop (i + 1) lens) (drop (14 * (i + 1)) room)
  slot_clean t right e =
      by_rule true right
      ∙ ap (λ (u : Bool). u and slots_of total (i + 1) (drop (i + 1) lens) (drop (14 * (i + 1)) room))
      (slot_cut room i (get_or lens i 0) (rule_most total i (get_or lens i 0) right) ∙ e)

pub slots_past : (total : ℕ) (lens room : List ℕ) (i : ℕ) → length lens ≤ i → slots_of total i (drop i lens) (drop (14 * i) room) ≡ true
unfolding slots_of
slots_past total lens room i h = ap (λ (l : List ℕ). slots_of total i l (drop (14 * i) room)) (drop_of_length-le lens h)

-- the positions held from one on
pub held_next : (lens : List ℕ) (i : ℕ) → i < length lens → held_of (drop i lens) ≡ one_of (get_or lens i 0) + held_of (drop (i + 1) lens)
unfolding held_of
held_next lens i h = rw (add-one i, drop-cons lens i 0)

pub held_past : (lens : List ℕ) (i : ℕ) → length lens ≤ i → held_of (drop i lens) ≡ 0
unfolding held_of
held_past lens i h = rw (drop_of_length-le lens h)

pub one_most : (len : ℕ) → one_of len ≤ 1
one_most len = go (eqb len 0)
  where
    go : (t : Bool) → when t 0 1 ≤ 1
    go true = omega arith
    go false = omega arith

zeros_append : (a b : List ℕ) → zeros_of (a ++ b) ≡ zeros_of a and zeros_of b
zeros_append [] b = refl
zeros_append (x ∷ a) b = go (eqb x 0) (zeros_append a b)
  where
    go : (t : Bool) → zeros_of (a ++ b) ≡ zeros_of a and zeros_of b → t and zeros_of (a ++ b) ≡ (t and zeros_of a) and zeros_of b
    go true e = e
    go false e = refl

swapped : (a l b : Bool) → a and l and b ≡ l and a and b
swapped true l b = refl
swapped false true b = refl
swapped false false b = refl

-- with nothing collected no position may be held
rule_none : (p len : ℕ) → rule_of 0 p len ≡ eqb len 0
rule_none p len = when_true (leb 0 p) _ _ (le-leb 0 p (omega arith))

-- and the slots obey their rules if lengths and room are zeros
pub blank_slots : (p : ℕ) (lens room : List ℕ) → length room ≡ 14 * length lens → slots_of 0 p lens room ≡ zeros_of lens and zeros_of room
unfolding slots_of
blank_slots p [] [] e = refl
blank_slots p [] (x ∷ room) e = absurd (omega arith)
blank_slots p (len ∷ lens) room e =
    let rest : length (drop 14 room) ≡ 14 * length lens = omega (arith, length-drop 14 room) in
    go (eqb len 0) refl (blank_slots (p + 1) lens (drop 14 room) rest)
  where
    go : (t : Bool) → eqb len 0 ≡ t → slots_of 0 (p + 1) lens (drop 14 room) ≡ zeros_of lens and zeros_of (drop 14 room)
        → rule_of 0 p len and zeros_of (take (14 - len) (drop len room)) and slots_of 0 (p + 1) lens (drop 14 room)
        ≡ (eqb len 0 and zeros_of lens) and zeros_of room
    go false w ih =
        ap (λ (t : Bool). t and zeros_of (take (14 - len) (drop len room)) and slots_of 0 (p + 1) lens (drop 14 room)) (rule_none p len ∙ w)
        ∙ sym (ap (λ (t : Bool). (t and zeros_of lens) and zeros_of room) w)
    go true w ih =
        ap (λ (t : Bool). t and zeros_of (take (14 - len) (drop len room)) and slots_of 0 (p + 1) lens (drop 14 room)) (rule_none p len ∙ w)
        ∙ ap (λ (n : ℕ). zeros_of (take (14 - n) (drop n room)) and slots_of 0 (p + 1) lens (drop 14 room)) (eqb-true len 0 w)
        ∙ ap (λ (t : Bool). zeros_of (take 14 room) and t) ih
        ∙ swapped (zeros_of (take 14 room)) (zeros_of lens) (zeros_of (drop 14 room))
        ∙ ap (λ (t : Bool). zeros_of lens and t) (sym (zeros_append (take 14 room) (drop 14 room)) ∙ ap zeros_of (take-append-drop 14 room))
        ∙ sym (ap (λ (t : Bool). (t and zeros_of lens) and zeros_of room) w)
