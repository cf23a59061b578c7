-- Hexadecimal digits.
use Rattle.std.specs.Prelude.{ℕ, ◌+◌, ◌-◌, ◌*◌, ltb, leb}
use Rattle.basis.specs.Choice.{when}

-- the value of a digit, 30h to 39h, 41h to 46h or 61h to 66h; 0 of any other byte
abbrev pub digit_of : ℕ → ℕ
digit_of x =
    when (ltb x 0x30) 0
    (when (leb x 0x39) (x - 0x30)
    (when (ltb x 0x41) 0 (when (leb x 0x46) (x - 0x41 + 10) (when (ltb x 0x61) 0 (when (leb x 0x66) (x - 0x61 + 10) 0)))))

-- the byte that two digits write
abbrev pub pair_of : ℕ → ℕ → ℕ
pair_of high low = digit_of high * 16 + digit_of low
