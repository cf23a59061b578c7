-- `later` hands on what the first pass cost, or reads the loop again.
use mathlib.Core.Path.{sym, ◌∙◌}
use Rattle.reckon.proofs.Passes.{later_same}
use Rattle.reckon.proofs.reckon.later.Goals as goal

pub returns-then-alike : goal.returns-then-alike
returns-then-alike c =
    let a = c.args in
    later_same a.body.now a.start a.first c.requires (sym c.alike.ensures ∙ c.if-alike.true)
