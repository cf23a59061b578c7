-- A text measured in columns: its two widths (S15), whether it fits (S16), and where a shown text starts (S17).
use Rattle.std.specs.Prelude.{ℕ, ◌+◌, ◌-◌, ◌/◌, min, List, [], ◌∷◌, Bool, eqb, leb}
use Rattle.basis.specs.Choice.{when}
use Rattle.params.specs.Bytes.{tilde}
use Rattle.measure.specs.declared.fonts.Font.{Font}
use Rattle.measure.specs.declared.width.Measured.{Measured}
use Rattle.measure.specs.declared.width.Widths.{Widths}

-- a font: the columns of its characters, and how many of them are blank
abbrev pub font : (columns blank : ℕ) → Font
font columns blank = record { columns = columns; blank = blank }

-- the fonts by their letters: D, d, B, b, C, c
abbrev pub font_of : ℕ → Font
font_of x =
    when (eqb x 0x44) (font 6 1)
    (when (eqb x 0x64) (font 7 2)
    (when (eqb x 0x42) (font 8 2)
    (when (eqb x 0x62) (font 9 3)
    (when (eqb x 0x43) (font 5 1) (font 6 2)))))

-- the font behind a tilde and a letter: that of the letter, but `G` (47h) leaves the font
abbrev pub switched_of : Font → ℕ → Font
switched_of f x = when (eqb x 0x47) f (font_of x)

-- a text measured up to a place: the font in force, the byte before, the columns so far, and the blank ones behind what was shown last
abbrev pub measured : Font → (last whole edge : ℕ) → Measured
measured f last whole edge = record { font = f; last = last; whole = whole; edge = edge }

-- one byte more: a tilde and its letter show nothing, a graphic byte is one column and has no blank one, a character is by the font
-- in force
abbrev pub with_byte : Measured → ℕ → Measured
with_byte m x =
    when (eqb m.last tilde) (measured (switched_of m.font x) x m.whole m.edge)
    (when (eqb x tilde) (measured m.font x m.whole m.edge)
    (when (leb 0x80 x) (measured m.font x (m.whole + 1) 0)
    (measured m.font x (m.whole + m.font.columns) m.font.blank)))

abbrev pub with_all : Measured → List ℕ → Measured
with_all m [] = m
with_all m (x ∷ xs) = with_all (with_byte m x) xs

-- a text starts in `D` (44h), with nothing before it
abbrev pub measured_of : List ℕ → Measured
measured_of s = with_all (measured (font_of 0x44) 0 0 0) s

-- the whole width, and the lit one, which is without the blank edge
abbrev pub widths_in : Measured → Widths
widths_in m = record { whole = m.whole; lit = m.whole - m.edge }

abbrev pub widths_of : List ℕ → Widths
widths_of s = widths_in (measured_of s)

-- where counting stops: more than any text of a body, which has at most 82 bytes of at most 9 columns
abbrev pub widest : ℕ
widest = 1000

abbrev pub counted_of : Widths → Widths
counted_of w = record { whole = min w.whole widest; lit = min w.lit widest }

abbrev pub fits_of : Widths → Bool
fits_of w = leb w.lit 96

-- a lit width over 96 has none and gives 0
abbrev pub column_of : Widths → ℕ
column_of w = (96 - w.lit) / 2
