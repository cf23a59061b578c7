-- `forbidden` is each of the four, and no other.
use Rattle.std.proofs.Common.{arith}
use Rattle.packet.proofs.Mids.{low_forbidden, high_forbidden, others_allowed}
use Rattle.packet.proofs.mid.forbidden.Goals as goal

pub returns-in_default : goal.returns-in_default
returns-in_default c = others_allowed c.args.mid (λ e. omega arith) (λ e. omega arith) (λ e. omega arith) (λ e. omega arith)

pub returns-in_default-2 : goal.returns-in_default-2
returns-in_default-2 c = others_allowed c.args.mid (λ e. omega arith) (λ e. omega arith) (λ e. omega arith) (λ e. omega arith)

pub returns-in-0 : goal.returns-in-0
returns-in-0 c = low_forbidden c.args.mid (omega arith)

pub returns-in-0-2 : goal.returns-in-0-2
returns-in-0-2 c = high_forbidden c.args.mid (omega arith) (omega arith)
