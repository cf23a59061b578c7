-- `closes` closes the loop that is open, which is behind its first pass.
use mathlib.Core.Path.{◌∙◌}
use Rattle.reckon.proofs.walk.closes.Goals as goal

pub closed-requires : goal.closed-requires
closed-requires c = λ l w. c.requires l (c.in-Within.is ∙ w)
