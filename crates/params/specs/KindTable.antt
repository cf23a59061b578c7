-- The rows of the table of byte kinds (P15), as the code has them. Only the private contract of `row` and its proof need this; what the
-- kinds are stands in Kinds.
use Rattle.std.specs.Prelude.{ℕ, List, [], ◌∷◌}

-- the rows of the table: the kinds of eight bytes in each, a digit for a byte, the first in the last digit
abbrev pub kind_rows : List ℕ
kind_rows =
    0x11111111 ∷ 0x11111111 ∷ 0x11111111 ∷ 0x11111111 ∷  -- 00h to 1Fh
    0x00000000 ∷ 0x00000000 ∷ 0x00000000 ∷ 0x00000000 ∷  -- 20h to 3Fh
    0x00000000 ∷ 0x00000000 ∷ 0x00000000 ∷ 0x02000000 ∷  -- 40h to 5Fh
    0x00000000 ∷ 0x00000000 ∷ 0x00000000 ∷ 0x13000000 ∷  -- 60h to 7Fh
    0x44444444 ∷ 0x44444444 ∷ 0x44444444 ∷ 0x44444444 ∷  -- 80h to 9Fh
    0x44444444 ∷ 0x44444444 ∷ 0x44444444 ∷ 0x44444444 ∷  -- A0h to BFh
    0x44444444 ∷ 0x44444444 ∷ 0x44444444 ∷ 0x44444444 ∷  -- C0h to DFh
    0x44444444 ∷ 0x44444444 ∷ 0x44444444 ∷ 0x44444444 ∷  -- E0h to FFh
    []
