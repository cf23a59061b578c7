-- Equal data, byte by byte: what a loop over both goes by, and that it is equality.
use Prim.Native.Nat.{ℕ}
use mathlib.Core.List.{List, [], ◌∷◌}
use mathlib.Core.Bool.{Bool, true, false}
use mathlib.Core.Path.{◌≡◌, refl, ap, ◌∙◌}
use native.Mathlib.Omega.{arith}
use lib.Dec.{eqb}
use lib.Pointwise.{pointwise}
use Rattle.std.specs.Prelude.{◌&&◌}
use borrow.Author.Tests.{eq-eqb, eqb-true}
use Rattle.basis.specs.Choice.{◌and◌}
use Rattle.basis.proofs.Choices.{and_parts}
use Rattle.collect.specs.Slots.{same_of}

-- two lists that are equal place by place
pub same_pointwise : (a b : List ℕ) → pointwise eqb a b ≡ same_of a b
unfolding same_of
same_pointwise [] [] = refl
same_pointwise [] (y ∷ ys) = refl
same_pointwise (x ∷ xs) [] = refl
same_pointwise (x ∷ xs) (y ∷ ys) = go (eqb x y) (same_pointwise xs ys)
  where
    go : (t : Bool) → pointwise eqb xs ys ≡ same_of xs ys → t && pointwise eqb xs ys ≡ t and same_of xs ys
    go true e = e
    go false e = refl

-- the same is equal, and equal is the same
pub same_equal : (a b : List ℕ) → same_of a b ≡ true → a ≡ b
unfolding same_of
same_equal [] [] e = refl
same_equal [] (y ∷ ys) e = let z : ◌≡◌ {A = ℕ} 0 1 = cc in absurd (omega arith)
same_equal (x ∷ xs) [] e = let z : ◌≡◌ {A = ℕ} 0 1 = cc in absurd (omega arith)
same_equal (x ∷ xs) (y ∷ ys) e =
    let p = and_parts (eqb x y) (same_of xs ys) e in
    let f : x ≡ y = eqb-true x y p.0 in
    let g : xs ≡ ys = same_equal xs ys p.1 in
    cc

pub equal_same : (a : List ℕ) → same_of a a ≡ true
unfolding same_of
equal_same [] = refl
equal_same (x ∷ xs) = ap (λ (t : Bool). t and same_of xs xs) (eq-eqb x x refl) ∙ equal_same xs
