-- `started` is at the first command, outside loops.
use mathlib.Core.Path.{ap}
use Rattle.machine.specs.Step.{started_of}
use Rattle.machine.specs.declared.Loop.{Loop}
use Rattle.machine.proofs.Run.started.Goals as goal

pub returns : goal.returns
unfolding started_of
returns c = ap (λ (l : Loop). record { len = c.args.len; place = 0; inner = l; settings = c.args.settings }) c.none.ensures
