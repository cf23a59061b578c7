-- A packet that obeys the rules, stored at a free position, leaves the slots right, and one more is held.
use Prim.Native.Nat.{ℕ, zero, suc, ◌+◌, ◌-◌, ◌*◌, ◌≤◌, ◌<◌}
use mathlib.Core.List.{List, [], ◌∷◌, ◌++◌}
use mathlib.Core.Bool.{Bool, true}
use mathlib.Core.Path.{◌≡◌, sym, ap, ◌∙◌}
use native.Mathlib.Omega.{arith}
use lib.ListN.{length, get_or, take, drop, set, length-drop}
use lib.Seq.{drop-append_seam, drop-append-le, take-append-le, drop-drop, drop_at, take-take, length-take-le}
use borrow.Author.Tests.{ne_eqb}
use Rattle.basis.specs.Bytes.{laid}
use Rattle.basis.specs.Choice.{when}
use Rattle.basis.proofs.Bytes.{drop_take}
use Rattle.basis.proofs.Choices.{and_true}
use Rattle.room.specs.Room.{zeros_of}
use Rattle.room.proofs.Unused.{zeros_drop}
use Rattle.collect.specs.Slots.{rule_of, one_of, held_of, slots_of}
use Rattle.collect.proofs.Rooms.{laid_on}
use Rattle.collect.proofs.Turns.{rule_most}
use Rattle.collect.proofs.Joined.{First, first}

-- a slot made of its parts
made : (total position len : ℕ) (lens room : List ℕ) → First total position len lens room → slots_of total position (len ∷ lens) room ≡ true
unfolding slots_of
made total position len lens room f = and_true _ _ f.rule (and_true _ _ f.clean f.rest)

pub slots_kept : (total q p : ℕ) (lens room part : List ℕ) → slots_of total q lens room ≡ true → p < length lens → length room ≡ 14 * length lens
    → get_or lens p 0 ≡ 0 → length part ≤ 14 → rule_of total (q + p) (length part) ≡ true
    → slots_of total q (set lens p (length part)) (laid (take (14 * p) room ++ part) room) ≡ true
unfolding laid
slots_kept total q p [] room part e below l free few right = absurd (omega arith)
slots_kept total q zero (len ∷ lens) room part e below l free few right =
    let f = first total q len lens room e in
    let n = length part in
    let new = part ++ drop n room in
    let z : len ≡ 0 = free in
    let clean : zeros_of (take 14 room) ≡ true = ap (λ (k : ℕ). zeros_of (take (14 - k) (drop k room))) (sym z) ∙ f.clean in
    let behind : drop n new ≡ drop n room = drop-append_seam part (drop n room) in
    let e14 : n + (14 - n) ≡ 14 = omega arith in
    let rest : drop 14 new ≡ drop 14 room =
    ap (λ (k : ℕ). drop k new) (sym e14)
    ∙ sym (drop-drop (14 - n) n new)
    ∙ ap (drop (14 - n)) behind
    ∙ drop-drop (14 - n) n room
    ∙ ap (λ (k : ℕ). drop k room) e14 in
    let here : q + 0 ≡ q = omega arith in
    made total q n lens new
    (record {
      rule = ap (λ (k : ℕ). rule_of total k n) (sym here) ∙ right;
      clean = ap (λ (s : List ℕ). zeros_of (take (14 - n) s)) behind ∙ ap zeros_of (sym (drop_take n 14 room few)) ∙ zeros_drop n (take 14 room) clean;
      rest = ap (slots_of total (q + 1) lens) rest ∙ f.rest;
    })
slots_kept total q (suc p) (len ∷ lens) room part e below l free few right =
    let f = first total q len lens room e in
    let n = length part in
    let d = drop 14 room in
    let ld : length d ≡ length room - 14 = length-drop 14 room in
    let lt : length (take 14 room) ≡ 14 = length-take-le 14 room (omega arith) in
    let new = laid (take (14 * p) d ++ part) d in
    let here : q + suc p ≡ q + 1 + p = omega arith in
    let again = slots_kept total (q + 1) p lens d part f.rest (omega arith) (omega arith) free few (ap (λ (k : ℕ). rule_of total k n) (sym here) ∙ right) in
    let whole : laid (take (14 * suc p) room ++ part) room ≡ take 14 room ++ new = laid_on room part p (omega arith) in
    let rest : drop 14 (take 14 room ++ new) ≡ new = drop_at (take 14 room) new 14 lt in
    let most : len ≤ 14 = rule_most total q len f.rule in
    let short : 14 - len ≤ length (drop len (take 14 room)) = omega (arith, length-drop len (take 14 room)) in
    let cut : take (14 - len) (drop len (take 14 room ++ new)) ≡ take (14 - len) (drop len room) =
    ap (take (14 - len)) (drop-append-le len (take 14 room) new (omega arith))
    ∙ take-append-le (14 - len) (drop len (take 14 room)) new short
    ∙ ap (take (14 - len)) (drop_take len 14 room most)
    ∙ take-take (14 - len) (14 - len) (drop len room) (omega arith) in
    ap (slots_of total q (len ∷ set lens p n)) whole
    ∙ made total q len (set lens p n) (take 14 room ++ new)
    (record {
      rule = f.rule;
      clean = ap zeros_of cut ∙ f.clean;
      rest = ap (slots_of total (q + 1) (set lens p n)) rest ∙ again;
    })

-- one more is held
pub held_more : (lens : List ℕ) (p n : ℕ) → p < length lens → get_or lens p 0 ≡ 0 → (n ≡ 0 → ⊥) → held_of (set lens p n) ≡ held_of lens + 1
unfolding held_of
held_more [] p n h free some = absurd (omega arith)
held_more (x ∷ xs) zero n h free some =
    let a : one_of n ≡ 1 = ap (λ (t : Bool). when t 0 1) (ne_eqb n 0 some) in
    let b : one_of x ≡ 0 = ap one_of free in
    omega arith
held_more (x ∷ xs) (suc p) n h free some = omega (arith, held_more xs p n (omega arith) free some)
