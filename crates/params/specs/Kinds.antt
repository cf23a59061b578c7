-- The five kinds of a text's bytes (L4): which bytes each of them has.
use Rattle.std.specs.Prelude.{ℕ, Bool, eqb, leb}
use Rattle.basis.specs.Choice.{when, ◌or◌}
use Rattle.params.specs.Bytes.{caret, tilde}

-- the kinds themselves
pub data ByteKind : Type 0 where
  Control : ByteKind
  Plain : ByteKind
  Caret : ByteKind
  Tilde : ByteKind
  Column : ByteKind

-- control: 00h to 1Fh, and 7Fh; caret: 5Eh; plain: 20h to 7Dh but for the caret; tilde: 7Eh; column: 80h to FFh
abbrev pub kind_of : ℕ → ByteKind
kind_of x =
    when (leb x 0x1F or eqb x 0x7F) Control
    (when (eqb x caret) Caret
    (when (leb x 0x7D) Plain
    (when (eqb x tilde) Tilde Column)))

-- the digit by which the table names a kind
abbrev pub kind_digit : ByteKind → ℕ
kind_digit Plain = 0
kind_digit Control = 1
kind_digit Caret = 2
kind_digit Tilde = 3
kind_digit Column = 4

-- whether a byte is of this kind
abbrev pub kind_is : ByteKind → ℕ → Bool
kind_is kind x = eqb (kind_digit (kind_of x)) (kind_digit kind)
