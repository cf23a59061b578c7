-- `lay_reply` copies six bytes and seals them.
use Rattle.std.proofs.Common.{ℕ, List, ◌++◌, drop, sym, ap, ◌∙◌, rules}
use Rattle.basis.proofs.Tests.{tests}
use Rattle.packet.specs.Wire.{reply_of}
use Rattle.reply.proofs.Laying.{reply_wrote}
use Rattle.reply.proofs.lays.lay_reply.Goals as goal

pub returns-then-out-lt8 : goal.returns-then-out-lt8
unfolding reply_of
returns-then-out-lt8 c = search (tests, sym c.is_last.ensures ∙ c.if-not-is_last.false)

pub returns : goal.returns
returns c =
    let a = c.args in
    let known = sym c.is_last.ensures ∙ c.if-not-is_last.false in
    reply_wrote a.mid a.status.last a.status.busy a.status.sink a.out.now _ c.turned_mid-from.result
    c.of-state.result
    c.of-aux.result
    c.checksum.result
    known
    (search rules)
    c.turned_mid-from.ensures
    c.of-state.ensures
    c.of-aux.ensures
    (ap (λ (q : List ℕ). q ++ drop 6 a.out.now) c.copy_from_slice.ensures.after)
    c.checksum.ensures
