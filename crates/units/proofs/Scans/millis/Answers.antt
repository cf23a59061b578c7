-- `millis` rounds up: whole rounds of `pace + 5` scans are 200 ms each, and only the rest is rounded.
use Rattle.units.proofs.Products.{rounds_summed}
use Rattle.units.proofs.Scans.millis.Goals as goal

pub returns : goal.returns
returns c =
    rounds_summed c.args.self.0 c.args.pace c.saturating_mul.result c.saturating_add.result
    c.saturating_mul.ensures
    c.saturating_add.ensures
