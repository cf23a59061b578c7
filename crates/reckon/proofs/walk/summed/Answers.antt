-- `summed` adds the command and takes what it leaves.
use mathlib.Core.Path.{sym, ap, ◌∙◌}
use Rattle.reckon.specs.Reckon.{plain_of}
use Rattle.reckon.proofs.Reckons.{pass_stops}
use Rattle.reckon.proofs.walk.summed.Goals as goal

pub taken-requires : goal.taken-requires
taken-requires c =
    let a = c.args in
    let b = a.body.now in
    let s = a.sums in
    let d = c.in-Ok.command in
    let e = sym c.requires.0 ∙ c.in-Ok.is in
    λ r l w. (c.added.ensures ∙ sym (pass_stops b s.at d e (ap plain_of r)) ∙ (c.requires.1 l w).0, (c.requires.1 l w).1)
