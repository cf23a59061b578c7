-- `begun` holds nothing yet.
use Rattle.collect.specs.Slots.{begun_of}
use mathlib.Core.Path.{refl}
use Rattle.collect.proofs.joining.begun.Goals as goal

pub returns : goal.returns
unfolding begun_of
returns c = refl
