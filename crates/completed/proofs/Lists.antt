-- Lists of IDs: whether an ID is among them, and the first of them.
use Prim.Native.Nat.{ℕ, zero, suc, ◌<◌, ◌≤◌}
use mathlib.Core.List.{List, [], ◌∷◌}
use mathlib.Core.Bool.{Bool, true, false, not}
use mathlib.Core.Path.{◌≡◌, refl, sym, ap, ◌∙◌}
use mathlib.Core.Logic.{dite}
use native.Mathlib.Decide.{dec_le}
use native.Mathlib.Omega.{arith}
use Rattle.std.specs.Prelude.{min}
use lib.Dec.{eqb, leb}
use lib.ListN.{length, get_or, take, drop}
use lib.Seq.{take_all}
use borrow.Author.Tests.{not-true, le-leb}
use Rattle.std.specs.Prelude.{◌||◌}
use Rattle.std.specs.List.{list_any}
use Rattle.basis.specs.Choice.{◌and◌, ◌or◌}
use Rattle.basis.proofs.Choices.{and_parts, and_true}
use Rattle.room.specs.Room.{zeros_of}
use Rattle.completed.specs.Completed.{ids_of, newest_of, is_among, differ_of, sound_of}
use Rattle.completed.specs.declared.Completed.{Completed}

-- one of them is this ID
pub any_among : (id : ℕ) (s : List ℕ) → list_any (λ x. eqb id x) s ≡ is_among id s
any_among id [] = refl
any_among id (x ∷ xs) = go (eqb id x) (any_among id xs)
  where
    go : (t : Bool) → list_any (λ y. eqb id y) xs ≡ is_among id xs → t || list_any (λ y. eqb id y) xs ≡ t or is_among id xs
    go true e = refl
    go false e = e

-- what isn't among a list isn't among its first
pub among_take : (n id : ℕ) (s : List ℕ) → is_among id s ≡ false → is_among id (take n s) ≡ false
among_take zero id s e = refl
among_take (suc n) id [] e = refl
among_take (suc n) id (x ∷ xs) e = go (eqb id x) e (among_take n id xs)
  where
    go : (t : Bool) → t or is_among id xs ≡ false → (is_among id xs ≡ false → is_among id (take n xs) ≡ false) → t or is_among id (take n xs) ≡ false
    go true e f = e
    go false e f = f e

-- the first of different IDs are different
pub differ_take : (n : ℕ) (s : List ℕ) → differ_of s ≡ true → differ_of (take n s) ≡ true
differ_take zero s e = refl
differ_take (suc n) [] e = refl
differ_take (suc n) (x ∷ xs) e =
    let p = and_parts (leb x 0x3F) (not (is_among x xs) and differ_of xs) e in
    let q = and_parts (not (is_among x xs)) (differ_of xs) p.1 in
    and_true (leb x 0x3F) _ p.0
    (and_true (not (is_among x (take n xs))) _ (ap not (among_take n x xs (not-true (is_among x xs) q.0))) (differ_take n xs q.1))

-- the newest of so many: 41h of none, and the first of some
pub newest_none : (n : ℕ) (s : List ℕ) → n ≡ 0 → newest_of (take n s) ≡ 0x41
newest_none n s e = ap (λ (k : ℕ). newest_of (take k s)) e

pub newest_some : (n : ℕ) (s : List ℕ) → 0 < length s → (n ≡ 0 → ⊥) → newest_of (take n s) ≡ get_or s 0 0
newest_some zero s h e = absurd (e refl)
newest_some (suc n) [] h e = absurd (omega arith)
newest_some (suc n) (x ∷ xs) h e = refl

-- the first three of four, one by one
pub first_three : (s : List ℕ) → length s ≡ 4 → take 3 s ≡ get_or s 0 0 ∷ get_or s 1 0 ∷ get_or s 2 0 ∷ []
first_three (a ∷ b ∷ c ∷ d ∷ []) e = refl
first_three [] e = absurd (omega arith)
first_three (a ∷ []) e = absurd (omega arith)
first_three (a ∷ b ∷ []) e = absurd (omega arith)
first_three (a ∷ b ∷ c ∷ []) e = absurd (omega arith)
first_three (a ∷ b ∷ c ∷ d ∷ x ∷ s) e = absurd (omega arith)

-- more than four of four are all of them
pub take_most : (n : ℕ) (s : List ℕ) → length s ≡ 4 → take (min n 4) s ≡ take n s
take_most n s size =
    dite (dec_le n 4) (λ few. ap (λ (k : ℕ). take k s) (omega arith))
    (λ many.
    let four : min n 4 ≡ 4 = omega arith in
    ap (λ (k : ℕ). take k s) four ∙ take_all 4 s (omega arith) ∙ sym (take_all n s (omega arith)))

-- no more than four, all different: the room of the others decides
pub sound_by : (d : Completed) → d.count ≤ 4 → differ_of (ids_of d) ≡ true → sound_of d ≡ zeros_of (drop d.count d.ids)
unfolding sound_of
sound_by d most differ =
    ap (λ (t : Bool). t and differ_of (ids_of d) and zeros_of (drop d.count d.ids)) (le-leb d.count 4 most)
    ∙ ap (λ (t : Bool). t and zeros_of (drop d.count d.ids)) differ
