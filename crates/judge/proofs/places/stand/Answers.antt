-- `stand` says of a place what `find` does: a place that stands anywhere is found.
use mathlib.Core.Path.{sym, ◌∙◌}
use Rattle.program.specs.Command.{read_of}
use Rattle.judge.specs.Standing.{stand_of}
use Rattle.judge.proofs.Turns.{found_some, found_none}
use Rattle.judge.proofs.places.stand.Goals as goal

pub returns-in_err-find : goal.returns-in_err-find
returns-in_err-find c =
    c.from_residual.ensures ∙ sym (found_none c.args.body.now c.args.place (sym c.in_err-find.ensures))

pub returns : goal.returns
returns c =
    sym (found_some (stand_of c.args.body.now c.args.place) (read_of c.args.body.now c.args.place) c.in_ok-find.field-0 (sym c.in_ok-find.ensures)).0
