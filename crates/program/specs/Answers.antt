-- A command's kind (S2) in the letters of L9 to L24, and by number.
use Rattle.std.specs.Prelude.{ℕ, List, [], ◌∷◌}
use Rattle.program.specs.declared.Kind.{Kind}
use Rattle.program.specs.declared.Kind.TheVariants.{II, IA, IB, S, L, E, F, R, XS, XF, P, Scans, W, XD, XB, Y}

-- the letters of a command, in ASCII
abbrev pub letters_of : Kind → List ℕ
letters_of II = 0x49 ∷ 0x49 ∷ []
letters_of IA = 0x49 ∷ 0x41 ∷ []
letters_of IB = 0x49 ∷ 0x42 ∷ []
letters_of S = 0x53 ∷ []
letters_of L = 0x4C ∷ []
letters_of E = 0x45 ∷ []
letters_of F = 0x46 ∷ []
letters_of R = 0x52 ∷ []
letters_of XS = 0x58 ∷ 0x53 ∷ []
letters_of XF = 0x58 ∷ 0x46 ∷ []
letters_of P = 0x50 ∷ []
letters_of Scans = 0x3D ∷ []
letters_of W = 0x57 ∷ []
letters_of XD = 0x58 ∷ 0x44 ∷ []
letters_of XB = 0x58 ∷ 0x42 ∷ []
letters_of Y = 0x59 ∷ []

-- a command by number, in the order of `table` in specs/Table, which include/yurodekapi.h has too
abbrev pub kind_of : Kind → ℕ
kind_of II = 1
kind_of IA = 2
kind_of IB = 3
kind_of S = 4
kind_of L = 5
kind_of E = 6
kind_of F = 7
kind_of R = 8
kind_of XS = 9
kind_of XF = 10
kind_of P = 11
kind_of Scans = 12
kind_of W = 13
kind_of XD = 14
kind_of XB = 15
kind_of Y = 16
