-- `write_all` lays packet behind packet: before each turn the buffer holds the first packets of the body at its front.
use mathlib.Core.Path.{◌≡◌}
use lib.ListN.{length}
use Rattle.basis.specs.Bytes.{laid}
use Rattle.packet.specs.Wire.{packets_of}
use Rattle.transmission.proofs.write.write_all.Given as goal

abbrev pub invariant-loop-position : goal.invariant-loop-position
invariant-loop-position l = (l.out ≡ laid (packets_of l.mid l.id l.body l.position) l.initial.out) × (length l.out ≡ length l.initial.out)
