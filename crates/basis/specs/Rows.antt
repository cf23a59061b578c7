-- A table of refusals (N0): a number and the test under which it is given. The first row whose test holds decides.
use Rattle.std.specs.Prelude.{ℕ, ◌<◌, Bool, false, ◌≡◌, List, [], ◌∷◌, eqb}
use Rattle.basis.specs.Choice.{when, ◌and◌, ◌or◌}

infix 70 ◌if◌
-- number n is given if the test holds
pub data Row : Type 0 where
  ◌if◌ : ℕ → Bool → Row

-- the number of the first row whose test holds, 0 where none does
abbrev pub first_of : List Row → ℕ
first_of [] = 0
first_of (n if b ∷ rows) = when b n (first_of rows)

-- whether number n applies, by any of its rows
abbrev pub applies : ℕ → List Row → Bool
applies n [] = false
applies n (m if b ∷ rows) = (eqb n m and b) or applies n rows

-- the numbers of a table rise from row to row
abbrev pub Rising : ℕ → List Row → Type 0
Rising m [] = Unit
Rising m (n if b ∷ rows) = (m < n) × Rising n rows

-- no test of the table holds
abbrev pub Passed : List Row → Type 0
Passed [] = Unit
Passed (n if b ∷ rows) = (b ≡ false) × Passed rows
