-- `sum_of` is the sum modulo 256: what has been added and what is left always make up the whole, modulo 256.
use Rattle.std.proofs.Common.{◌≡◌, ◌+◌, ◌%◌, ◌<◌, drop}
use Rattle.basis.specs.Bytes.{sum}
use Rattle.packet.proofs.sum.sum_of.Given as goal

abbrev pub invariant-loop-x : goal.invariant-loop-x
invariant-loop-x l = (l.total < 256) × ((l.total + sum (drop l.x-index l.bytes)) % 256 ≡ sum l.bytes % 256)
