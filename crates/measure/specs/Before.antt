-- The width of a text in version 1.0, when there was one. It is kept as it was; proofs/Same says that it is the whole width of today.
use Rattle.std.specs.Prelude.{ℕ, ◌+◌, List, [], ◌∷◌, eqb, leb}
use Rattle.basis.specs.Choice.{when}
use Rattle.params.specs.Bytes.{tilde}

-- the columns of a character in a font, named by its letter: D 6, d 7, B 8, b 9, C 5, c 6
abbrev pub font_columns : ℕ → ℕ
font_columns f = when (eqb f 0x44) 6 (when (eqb f 0x64) 7 (when (eqb f 0x42) 8 (when (eqb f 0x62) 9 (when (eqb f 0x43) 5 6))))

-- the columns of a byte, `each` being those of a character in the font that is on, and last the byte before: a tilde and its
-- letter take none, a graphic byte takes one
abbrev pub columns_before : (each last x : ℕ) → ℕ
columns_before each last x = when (eqb last tilde) 0 (when (eqb x tilde) 0 (when (leb 0x80 x) 1 each))

-- the columns of a character behind a byte: a letter behind a tilde switches to its font, but `G` (47h) leaves the font
abbrev pub each_before : (each last x : ℕ) → ℕ
each_before each last x = when (eqb last tilde) (when (eqb x 0x47) each (font_columns x)) each

-- the width of a text from here on
abbrev pub width_from : (each last : ℕ) → List ℕ → ℕ
width_from each last [] = 0
width_from each last (x ∷ xs) = columns_before each last x + width_from (each_before each last x) x xs

-- the width of a text: it starts in `D` (44h), with nothing before it
abbrev pub width_before : List ℕ → ℕ
width_before s = width_from (font_columns 0x44) 0 s
