-- `walk` judges and reckons round by round: the verdict from here on is that on the whole, and what is reckoned and left make up the whole.
use Prim.Native.Nat.{◌-◌}
use lib.ListN.{length}
use Rattle.course.specs.Tree.{exit_of, tree_in}
use Rattle.reckon.specs.Forecast.{prices_of}
use Rattle.reckon.proofs.Walks.{Stands}
use Rattle.reckon.proofs.walk.walk.Given as goal

abbrev pub invariant-loop-sums : goal.invariant-loop-sums
invariant-loop-sums l = Stands l.body (prices_of (tree_in l.body).block l.initial.sums.entry) (exit_of (tree_in l.body).block l.initial.sums.entry) l.flow l.sums

abbrev pub decreases-loop-sums : goal.decreases-loop-sums
decreases-loop-sums l = length l.body - l.sums.at.place
