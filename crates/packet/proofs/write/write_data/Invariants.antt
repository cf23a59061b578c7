-- `write_data` lays and adds byte by byte: before each turn the first bytes are laid, and their sum and what is left make up the whole, modulo 256.
use Rattle.std.proofs.Common.{◌≡◌, ◌+◌, ◌%◌, ◌<◌, length, take, drop}
use Rattle.basis.specs.Bytes.{sum, laid}
use Rattle.packet.proofs.write.write_data.Given as goal

abbrev pub invariant-loop-i : goal.invariant-loop-i
invariant-loop-i l = ((l.total < 256) × ((l.total + sum (drop l.i l.part)) % 256 ≡ sum l.part % 256)) × ((l.out ≡ laid (take l.i l.part) l.initial.out) × (length l.out ≡ length l.initial.out))
