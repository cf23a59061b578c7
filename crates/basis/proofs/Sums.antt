-- Laws of the sum of a list: what a loop over it adds, and what joining two lists adds up to.
use Prim.Native.Nat.{ℕ, ◌+◌, ◌≤◌, ◌<◌}
use mathlib.Core.Path.{◌≡◌}
use mathlib.Core.List.{List, [], ◌∷◌, ◌++◌}
use native.Mathlib.Numerals.{add-one}
use native.Mathlib.Omega.{arith}
use lib.ListN.{length, get_or, drop, drop_of_length-le}
use lib.Seq.{drop-cons}
use Rattle.basis.specs.Bytes.{sum}

-- what is left to add from a place on is the byte there and what is left behind it
pub sum_next : (s : List ℕ) (i : ℕ) → i < length s → sum (drop i s) ≡ get_or s i 0 + sum (drop (i + 1) s)
unfolding sum
sum_next s i h = rw (add-one, drop-cons s i 0)

-- from the end on nothing is left
pub sum_past : (s : List ℕ) (i : ℕ) → length s ≤ i → sum (drop i s) ≡ 0
unfolding sum
sum_past s i h = rw drop_of_length-le

pub sum_append : (s t : List ℕ) → sum (s ++ t) ≡ sum s + sum t
unfolding sum
sum_append [] t = omega arith
sum_append (x ∷ s) t = omega (arith, sum_append s t)
