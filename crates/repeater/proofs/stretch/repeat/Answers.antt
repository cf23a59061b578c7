-- `repeat` gives the standing line wherever the stretch doesn't lie within the body.
use Rattle.repeater.proofs.Stretches.{stands, stretches}
use mathlib.Core.Path.{sym, ◌∙◌}
use Rattle.repeater.proofs.stretch.repeat.Goals as goal

pub returns-then-not-shows : goal.returns-then-not-shows
returns-then-not-shows c =
    let a = c.args in
    let told = stands a.body.now a.place a.len a.standing.now a.body.ref_ptr.0 a.body.ref_ptr.1 a.standing.ref_ptr.0 a.standing.ref_ptr.1
    (sym c.shows.ensures ∙ c.if-not-shows.true) in
    record { bytes = told.0; block = told.1.0; offset = told.1.1 }

pub returns : goal.returns
returns c =
    let a = c.args in
    let told = stretches a.body.now a.place a.len a.standing.now a.body.ref_ptr.0 a.body.ref_ptr.1 a.standing.ref_ptr.0 a.standing.ref_ptr.1
    (sym c.shows.ensures ∙ c.if-not-shows.false) in
    record { bytes = told.0; block = told.1.0; offset = told.1.1 }
