-- `same` is the slices' own test.
use mathlib.Core.Path.{◌∙◌}
use Rattle.collect.proofs.Equal.{same_pointwise}
use Rattle.collect.proofs.joining.same.Goals as goal

pub returns : goal.returns
returns c = c.eq.ensures ∙ same_pointwise c.args.one.now c.args.other.now
