-- `ready` is the run that holds no body.
use Rattle.machine.specs.Step.{ready_of, started_of}
use Rattle.machine.proofs.Run.ready.Goals as goal

pub returns : goal.returns
unfolding ready_of started_of
returns c = c.started.ensures
