-- `write_special` asks for the MID and the room, and writes a packet without data.
use Rattle.basis.proofs.Tests.{tests}
use Rattle.packet.specs.Wire.{packet_of}
use Rattle.packet.proofs.Guards.{let_through, guard_passed}
use Rattle.packet.proofs.Writing.{special_wrote}
use Rattle.packet.proofs.write.write_special.Goals as goal

pub returns-then-out-lt-AROUND : goal.returns-then-out-lt-AROUND
unfolding packet_of
returns-then-out-lt-AROUND c = search (tests, let_through c.args.mid _ c.in_ok-allowed.ensures)

pub returns : goal.returns
returns c =
    let a = c.args in
    let allowed = let_through c.args.mid _ c.in_ok-allowed.ensures in
    guard_passed a.mid _ _ a.out.now _ _ allowed
    (special_wrote a.mid a.id a.out.now _ c.if-out-lt-AROUND.false c.write_fields.ensures)
