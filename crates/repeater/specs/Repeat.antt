-- The driver's repeater: rules S29 and S30. The sum of place and length is the true one.
use Rattle.std.specs.Prelude.{ℕ, ◌+◌, List, Bool, not, eqb, leb, length, take, drop}
use Rattle.basis.specs.Choice.{when, ◌and◌}

-- the stretch lies within the body, and its place isn't 0
abbrev pub within_of : List ℕ → ℕ → ℕ → Bool
within_of body place len = not (eqb place 0) and leb (place + len) (length body)

unfoldable pub repeat_of : List ℕ → ℕ → ℕ → List ℕ → List ℕ
repeat_of body place len standing = when (within_of body place len) (take len (drop place body)) standing
