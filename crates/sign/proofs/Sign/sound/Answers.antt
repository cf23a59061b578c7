-- `sound` tests the frame, then the run.
use mathlib.Core.Bool.{Bool}
use mathlib.Core.Path.{sym, ap, ◌∙◌}
use Rattle.basis.specs.Choice.{◌and◌}
use Rattle.machine.specs.Sound.{sound_of as run_sound}
use Rattle.sign.proofs.Sounds.{sound_framed}
use Rattle.sign.proofs.Sign.sound.Goals as goal

pub returns-else-framed : goal.returns-else-framed
returns-else-framed c =
    let s = c.args.self in
    let bare = c.if-framed.false in
    bare ∙ sym (sound_framed s ∙ ap (λ (t : Bool). t and run_sound s.room s.run) (sym c.framed.ensures ∙ bare))

pub returns-then-framed : goal.returns-then-framed
returns-then-framed c =
    let s = c.args.self in
    c.sound.ensures
    ∙ sym (sound_framed s ∙ ap (λ (t : Bool). t and run_sound s.room s.run) (sym c.framed.ensures ∙ c.if-framed.true))
