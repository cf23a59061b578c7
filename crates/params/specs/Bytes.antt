-- The two bytes that the command language names, caret (L1) and tilde (L5), and what a parameter is (L2).
use Rattle.std.specs.Prelude.{ℕ, List, [], ◌∷◌, eqb}
use Rattle.basis.specs.Choice.{when}
use Rattle.params.specs.declared.Parameter.{Parameter}

abbrev pub caret : ℕ
caret = 0x5E

abbrev pub tilde : ℕ
tilde = 0x7E

-- the bytes up to the next caret or the end
abbrev pub param_of : List ℕ → List ℕ
param_of [] = []
param_of (x ∷ xs) = when (eqb x caret) [] (x ∷ param_of xs)

-- the first byte, or a caret where there is none
abbrev pub first_of : List ℕ → ℕ
first_of [] = caret
first_of (x ∷ xs) = x

-- a parameter that was read up to a place, with its number
abbrev pub read_to : (next number : ℕ) → Parameter
read_to next number = record { next = next; number = number }
