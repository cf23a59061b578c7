-- Where a line ends.
use Rattle.std.specs.Prelude.{ℕ, ◌+◌, List, [], ◌∷◌, eqb}
use Rattle.basis.specs.Choice.{when}

-- the place of the first line end (0Ah) among these bytes, the first of which stands at a place; or the place behind them
abbrev pub line_end : ℕ → List ℕ → ℕ
line_end at [] = at
line_end at (x ∷ xs) = when (eqb x 0x0A) at (line_end (at + 1) xs)
