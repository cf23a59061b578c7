-- `taken` closes a loop at an `E`, where the pass before it is known.
use mathlib.Core.Path.{sym, ◌∙◌}
use Rattle.reckon.proofs.walk.taken.Goals as goal

pub closes-requires : goal.closes-requires
closes-requires c = c.requires (sym c.role.ensures ∙ c.in-Close.is)
