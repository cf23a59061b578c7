-- `yd_read_reply` tells what the reply's reader hears; an answer that is too short stays.
use mathlib.Core.Path.{ap}
use borrow.Author.Rules.{rules}
use Rattle.std.specs.Prelude.{Result}
use Rattle.refusal.specs.declared.Refusal.{Refusal}
use Rattle.reply.specs.Reply.{heard_of, told_of}
use Rattle.reply.specs.declared.Status.{Status}
use Rattle.reply.proofs.Replies.{heard_stops}
use Rattle.cabi.proofs.Lays.{reader_told}
use Rattle.cabi.proofs.wire.yd_read_reply.Goals as goal

pub returns : goal.returns
returns c =
    let a = c.args in
    let told = reader_told told_of a.mid 12 a.answer.now c.read_reply.result (heard_of a.mid a.bytes.now) c.read_reply.ensures
    (search rules)
    (λ e. ap (λ (x : Result Status Refusal). (told_of x).number) (heard_stops a.mid a.bytes.now e))
    (c.tell_status.ensures.result, c.tell_status.ensures.told) in
    record { result = told.0; told = told.1 }
