-- `none` holds no ID.
use mathlib.Core.Path.{refl}
use Rattle.completed.specs.Completed.{none_of}
use Rattle.completed.proofs.known.none.Goals as goal

pub returns : goal.returns
unfolding none_of
returns c = refl
