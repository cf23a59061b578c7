-- `reset` refuses an unsound record, and clears a sound one.
use Rattle.basis.proofs.Tests.{tests}
use Rattle.sign.specs.Reset.{cleared_of}
use mathlib.Core.Path.{sym, ◌∙◌}
use Rattle.sign.proofs.Sign.reset.Goals as goal

pub returns-then-not-sound : goal.returns-then-not-sound
unfolding cleared_of
returns-then-not-sound c = search (tests, sym c.sound.ensures ∙ c.if-not-sound.true)

pub returns : goal.returns
unfolding cleared_of
returns c = search (tests, sym c.sound.ensures ∙ c.if-not-sound.false, c.fresh.ensures)
