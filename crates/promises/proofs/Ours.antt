-- Ours keeps all promises.
use Rattle.promises.specs.Unit.{ours}
use Rattle.promises.specs.Keeps.{Keeps}
use Rattle.promises.proofs.Delivery.{ours_delivers}
use Rattle.promises.proofs.Dispatch.{ours_dispatches}
use Rattle.promises.proofs.Guard.{ours_guards}
use Rattle.promises.proofs.Late.{ours_remembers}
use Rattle.promises.proofs.Line.{ours_runs}
use Rattle.promises.proofs.Record.{ours_obeys}
use Rattle.promises.proofs.Safe.{ours_never_trips}
use Rattle.promises.proofs.Wire.{ours_holds}

pub ours_keeps : Keeps ours
ours_keeps =
    record {
      dispatch = ours_dispatches;
      safe = ours_never_trips;
      guards = ours_guards;
      wire = ours_holds;
      obeys = ours_obeys;
      delivers = ours_delivers;
      late = ours_remembers;
      line = ours_runs;
    }
