-- Lists of zeros: a part of one, and the whole.
use Prim.Native.Nat.{ℕ, zero, suc}
use mathlib.Core.List.{List, [], ◌∷◌}
use mathlib.Core.Bool.{true}
use mathlib.Core.Path.{◌≡◌, refl, ap, ◌∙◌}
use lib.Dec.{eqb}
use lib.ListN.{length, take, drop, replicate}
use borrow.Author.Tests.{eqb-true}
use Rattle.basis.proofs.Choices.{and_parts, and_true}
use Rattle.room.specs.Room.{zeros_of}

-- zeros are a replicate
pub all_zeros : (s : List ℕ) → zeros_of s ≡ true → s ≡ replicate (length s) 0
all_zeros [] e = refl
all_zeros (x ∷ xs) e =
    let p = and_parts (eqb x 0) (zeros_of xs) e in
    let z : x ≡ 0 = eqb-true x 0 p.0 in
    let r : xs ≡ replicate (length xs) 0 = all_zeros xs p.1 in
    ap (λ (y : ℕ). y ∷ xs) z ∙ ap (λ (ys : List ℕ). 0 ∷ ys) r

-- zeros after zeros, and zeros before them
pub zeros_drop : (n : ℕ) (s : List ℕ) → zeros_of s ≡ true → zeros_of (drop n s) ≡ true
zeros_drop zero s e = e
zeros_drop (suc n) [] e = refl
zeros_drop (suc n) (x ∷ xs) e = zeros_drop n xs (and_parts (eqb x 0) (zeros_of xs) e).1

pub zeros_take : (n : ℕ) (s : List ℕ) → zeros_of s ≡ true → zeros_of (take n s) ≡ true
zeros_take zero s e = refl
zeros_take (suc n) [] e = refl
zeros_take (suc n) (x ∷ xs) e = let p = and_parts (eqb x 0) (zeros_of xs) e in and_true (eqb x 0) _ p.0 (zeros_take n xs p.1)
