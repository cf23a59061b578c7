-- `tell_received` writes four words, and the body after them; a refusal writes none.
use mathlib.Core.Path.{ap}
use Prim.Native.Nat.{◌≤◌}
use Rattle.std.proofs.Common.{◌≡◌, length, rules}
use Rattle.words.specs.Says.{outcome_of}
use Rattle.words.proofs.Lays.{received_lays, refused_lays}
use Rattle.words.proofs.received.tell_received.Goals as goal

pub returns-in_default-clause-told : goal.returns-in_default-clause-told
returns-in_default-clause-told c =
    let a = c.args in
    refused_lays a.outcome a.body.now a.answer.now (search rules) (ap outcome_of c.in_default.is)

pub returns-clause-told : goal.returns-clause-told
returns-clause-told c =
    let a = c.args in
    let room : 100 ≤ length a.answer.now = search rules in
    let size : length a.body.now ≡ 84 = search rules in
    received_lays c.in-Ok.heard a.outcome a.body.now a.answer.now c.lay.new.out c.copy_from_slice.new.self c.outcome_words.result room c.in-Ok.is c.outcome_words.ensures c.lay.ensures size c.copy_from_slice.ensures.after
