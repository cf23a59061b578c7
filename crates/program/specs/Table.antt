-- The table of commands, L9 to L24: the letters after the caret, the kind, and the form of the parameter (L3).
use Rattle.std.specs.Prelude.{ℕ, List, [], ◌∷◌, Bool, true, false, eqb, length, Option, None, Some}
use Rattle.basis.specs.Choice.{when, ◌and◌}
use Rattle.params.specs.Bytes.{caret}
use Rattle.program.specs.declared.Kind.{Kind}
use Rattle.program.specs.declared.Kind.TheVariants.{II, IA, IB, S, L, E, F, R, XS, XF, P, Scans, W, XD, XB, Y}
use Rattle.program.specs.declared.Form.{Form}
use Rattle.program.specs.declared.Form.TheVariants.{Text, Bare, Number}
use Rattle.program.specs.declared.Row.{Row}

-- a number from a least to a greatest value, of so many digits at most
abbrev pub number : (least greatest most : ℕ) → Form
number least greatest most = Number (record { least = least; greatest = greatest; digits = most })

-- a line of the table: the caret and the letters, the kind, what follows
pub data Line : Type 0 where
  line : List ℕ → Kind → Form → Line

abbrev pub one : ℕ → Kind → Form → Line
one a k f = line (caret ∷ a ∷ []) k f

abbrev pub two : ℕ → ℕ → Kind → Form → Line
two a b k f = line (caret ∷ a ∷ b ∷ []) k f

-- 49h is `I`, 41h `A`, 42h `B`, 53h `S`, 4Ch `L`, 45h `E`, 46h `F`, 52h `R`, 58h `X`, 50h `P`, 3Dh `=`, 57h `W`, 44h `D`, 59h `Y`
abbrev pub table : List Line
table =
    two 0x49 0x49 II Text
    ∷ two 0x49 0x41 IA Text
    ∷ two 0x49 0x42 IB Text
    ∷ one 0x53 S Text
    ∷ one 0x4C L (number 1 99 2)
    ∷ one 0x45 E Bare
    ∷ one 0x46 F Bare
    ∷ one 0x52 R Bare
    ∷ two 0x58 0x53 XS Bare
    ∷ two 0x58 0x46 XF Bare
    ∷ one 0x50 P (number 1 20 2)
    ∷ one 0x3D Scans (number 1 6 1)
    ∷ one 0x57 W (number 1 99 2)
    ∷ two 0x58 0x44 XD (number 1 255 3)
    ∷ two 0x58 0x42 XB (number 0 255 3)
    ∷ one 0x59 Y (number 0 17 2)
    ∷ []

-- whether the bytes begin with these letters
abbrev pub begins : List ℕ → List ℕ → Bool
begins [] s = true
begins (l ∷ ls) [] = false
begins (l ∷ ls) (x ∷ xs) = eqb x l and begins ls xs

-- a row by its parts
abbrev pub known : Kind → Form → ℕ → Row
known k f letters = record { kind = k; form = f; letters = letters }

-- the line whose letters the bytes begin with, and how many bytes those are
abbrev pub row_at : List Line → List ℕ → Option Row
row_at [] s = None
row_at (line ls k f ∷ t) s = when (begins ls s) (Some (known k f (length ls))) (row_at t s)
