-- `sound` tests the count, the IDs that there are, and the room of the others.
use Rattle.completed.specs.Completed.{sound_of}
use native.Mathlib.Omega.{arith}
use Rattle.std.proofs.lemmas.Grind.{common_steps}
use Rattle.completed.proofs.Completed.sound.Goals as goal

pub returns-then-differ : goal.returns-then-differ
unfolding sound_of
returns-then-differ c = grind (arith, common_steps)

pub returns-else-differ : goal.returns-else-differ
unfolding sound_of
returns-else-differ c = grind (arith, common_steps)
