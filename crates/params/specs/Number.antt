-- What a right number is: digits alone, one at least, not more of them than the command takes, and a value in its range.
-- Rule L8, and N23 at the command's caret.
use Rattle.std.specs.Prelude.{ℕ, ◌+◌, ◌*◌, ◌-◌, List, [], ◌∷◌, Bool, true, length, Result, Ok, Err}
use Rattle.basis.specs.Choice.{when, ◌and◌, within}
use Rattle.params.specs.Bytes.{read_to}
use Rattle.params.specs.declared.Parameter.{Parameter}
use Rattle.refusal.specs.Refusal.{fault}
use Rattle.refusal.specs.declared.Fault.{Fault}

-- whether each byte is a digit, 30h to 39h
abbrev pub digits : List ℕ → Bool
digits [] = true
digits (x ∷ xs) = within 0x30 x 0x39 and digits xs

-- the value of digits in decimal, behind those that made v
abbrev pub value_of : ℕ → List ℕ → ℕ
value_of v [] = v
value_of v (x ∷ xs) = value_of (v * 10 + (x - 0x30)) xs

-- the number that stands from `at` on, of 1 to `most` digits and a value from lo to hi; or 23 at the command's place
abbrev pub number_of : (lo hi most place at : ℕ) → List ℕ → Result Parameter Fault
number_of lo hi most place at ds =
    when (digits ds and (within 1 (length ds) most and within lo (value_of 0 ds) hi))
    (Ok (read_to (at + length ds) (value_of 0 ds)))
    (Err (fault 23 place))
