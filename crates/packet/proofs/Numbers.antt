-- What a writer answers by name is what its rows say by number, where each number of the rows has a name.
use Rattle.std.proofs.Common.{◌≡◌, ℕ, zero, suc, List, refl, ap, ◌<◌, arith}
use Rattle.basis.specs.Rows.{Row, first_of}
use Rattle.basis.specs.Told.{no}
use Rattle.refusal.specs.Refusal.{Named, AllNamed}
use Rattle.refusal.proofs.Names.{first_named}
use Rattle.packet.specs.Write.{answer_of, told_of, written_of}

-- one number
number_told : (n : ℕ) (bytes : List ℕ) → (0 < n → Named n) → told_of (answer_of n bytes) ≡ written_of n bytes
number_told zero bytes named = refl
number_told (suc n) bytes named = ap no (named (omega arith))

pub rows_told : (rows : List Row) (bytes : List ℕ) → AllNamed rows → told_of (answer_of (first_of rows) bytes) ≡ written_of (first_of rows) bytes
rows_told rows bytes named = number_told (first_of rows) bytes (first_named rows named)
