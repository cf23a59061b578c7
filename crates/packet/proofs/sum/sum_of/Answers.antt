use Rattle.std.proofs.Common.{arith, rules}
use Rattle.basis.proofs.Sums.{sum_next, sum_past}
use Rattle.packet.proofs.sum.sum_of.Goals as goal

pub loop-x-preserved : goal.loop-x-preserved
loop-x-preserved c = omega (arith, sum_next c.args.bytes.now c.loop-x.x-index (search rules))

pub returns : goal.returns
returns c = omega (arith, sum_past c.args.bytes.now c.loop-x.x-index (search rules))
