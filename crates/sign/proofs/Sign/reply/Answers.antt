-- `reply` hands on to the writer of replies; a sound record's last ID is one that it takes.
use Rattle.sign.proofs.Tells.{reply_tells}
use Rattle.sign.proofs.Sounds.{sound_parts}
use mathlib.Core.Path.{sym, ◌∙◌}
use Rattle.sign.proofs.Sign.reply.Goals as goal

pub returns : goal.returns
returns c =
    let a = c.args in
    let e = sym c.sound.ensures ∙ c.if-not-sound.false in
    reply_tells a.self a.mid a.aux a.out.now _ _ _ e (sound_parts a.self e).completed c.last.ensures c.write_reply.ensures
