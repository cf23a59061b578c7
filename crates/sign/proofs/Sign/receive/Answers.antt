-- `receive` refuses a record whose run is unsound, and goes by what is heard.
use mathlib.Core.Path.{sym, ◌∙◌}
use Rattle.hear.specs.Join.{left_of}
use Rattle.sign.proofs.Joining.{received_is, unsound_run}
use Rattle.sign.proofs.Sign.receive.Goals as goal

pub returns-then-not-sound : goal.returns-then-not-sound
returns-then-not-sound c =
    let a = c.args in
    c.stays.ensures ∙ sym (unsound_run a.self a.mid a.bytes.now (sym c.sound.ensures ∙ c.if-not-sound.true))

pub returns : goal.returns
returns c =
    let a = c.args in
    let h = c.hear-heard in
    received_is a.self a.mid a.bytes.now (left_of h.result h.new.room) c.after.result (sym c.sound.ensures ∙ c.if-not-sound.false) h.ensures c.after.ensures
