-- `params::number::read_number` meets its contract. The invariant: the digits passed made the value, it is not over `hi`, and
-- they are not more than `most`. The measure is what is left of the body.
use Prim.Native.Nat.{◌+◌, ◌-◌, ◌≤◌}
use lib.ListN.{length}
use Rattle.params.proofs.Numbers.{Passed}
use Rattle.params.proofs.number.read_number.Given as goal

abbrev pub invariant-loop-x : goal.invariant-loop-x
invariant-loop-x l = (l.from ≤ l.at) × (l.at ≤ l.from + l.range.digits) × (l.value ≤ l.range.greatest) × Passed l.body l.from l.at l.value

abbrev pub decreases-loop-x : goal.decreases-loop-x
decreases-loop-x l = length l.body - l.at
