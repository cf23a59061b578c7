-- `write_at` asks 31 to 34 in turn; where none applies, its packet is written.
use Rattle.std.proofs.Common.{refl, rules}
use Rattle.packet.proofs.Writing.{packet_refused, packet_wrote}
use Rattle.packet.proofs.write.write_at.Goals as goal

pub returns-then-out-len : goal.returns-then-out-len
returns-then-out-len c =
    let a = c.args in
    packet_refused a.mid a.id a.body.now a.out.now (search rules) (search rules) (search rules) a.position
    c.min-len.result
    (search rules)
    c.min-len.ensures
    (search rules)

pub returns : goal.returns
returns c =
    let a = c.args in
    packet_wrote a.mid a.id a.body.now a.out.now (search rules) (search rules) (search rules) a.position
    c.min-len.result
    (search rules)
    c.min-len.ensures
    _
    _
    _
    (search rules)
    (search rules)
    refl
    c.write_fields.ensures
