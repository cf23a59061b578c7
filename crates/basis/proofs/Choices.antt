-- A choice whose test is known, the connectives' values from their parts', and a range from its ends.
use Prim.Native.Nat.{ℕ, ◌≤◌}
use mathlib.Core.Bool.{Bool, true, false}
use mathlib.Core.Path.{◌≡◌, refl, ap, ◌∙◌}
use lib.Dec.{leb}
use borrow.Author.Tests.{le-leb, leb-true}
use Rattle.basis.specs.Choice.{when, ◌and◌, within}

pub when_true : {A : Type 0} (t : Bool) (x y : A) → t ≡ true → when t x y ≡ x
when_true t x y e = ap (λ (b : Bool). when b x y) e

pub when_false : {A : Type 0} (t : Bool) (x y : A) → t ≡ false → when t x y ≡ y
when_false t x y e = ap (λ (b : Bool). when b x y) e

pub and_true : (a b : Bool) → a ≡ true → b ≡ true → a and b ≡ true
and_true a b ea eb = ap (λ (t : Bool). t and b) ea ∙ eb

-- both parts of a conjunction that holds hold
pub and_parts : (a b : Bool) → a and b ≡ true → (a ≡ true) × (b ≡ true)
and_parts true b e = (refl, e)
and_parts false b e = (e, cc)

-- a number in a range lies between its ends, and one that lies there is in it
pub within_parts : (lo n hi : ℕ) → within lo n hi ≡ true → (lo ≤ n) × (n ≤ hi)
within_parts lo n hi e = let p = and_parts (leb lo n) (leb n hi) e in (leb-true lo n p.0, leb-true n hi p.1)

pub within_true : (lo n hi : ℕ) → lo ≤ n → n ≤ hi → within lo n hi ≡ true
within_true lo n hi low high = and_true (leb lo n) (leb n hi) (le-leb lo n low) (le-leb n hi high)
