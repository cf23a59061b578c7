-- `yd_read_packet` tells what the reader reads; an answer that is too short stays.
use mathlib.Core.Path.{ap}
use borrow.Author.Rules.{rules}
use Rattle.std.specs.Prelude.{Result}
use Rattle.refusal.specs.declared.Refusal.{Refusal}
use Rattle.reader.specs.Read.{read_of, told_of}
use Rattle.reader.specs.declared.read.Packet.{Packet}
use Rattle.reader.proofs.Guard.{read_stops}
use Rattle.cabi.proofs.Lays.{reader_told}
use Rattle.cabi.proofs.wire.yd_read_packet.Goals as goal

pub returns : goal.returns
returns c =
    let a = c.args in
    let told = reader_told told_of a.mid 20 a.answer.now c.read_packet.result (read_of a.mid a.bytes.now) c.read_packet.ensures
    (search rules)
    (λ e. ap (λ (x : Result Packet Refusal). (told_of x).number) (read_stops a.mid a.bytes.now e))
    (c.tell_reading.ensures.result, c.tell_reading.ensures.told) in
    record { result = told.0; told = told.1 }
