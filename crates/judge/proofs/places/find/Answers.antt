-- `find` looks on the walk, in a body that the front does not refuse.
use mathlib.Core.Path.{sym, ap, ◌∙◌}
use Rattle.program.specs.Command.{read_of}
use Rattle.judge.specs.Verdict.{Verdict, commands_of}
use Rattle.judge.specs.Standing.{of_accepted, stand_of, placed_of}
use Rattle.std.specs.Result.{result_ok}
use Rattle.judge.proofs.Turns.{front_judged, begun_front, front_none, front_some, sought, walk_none, walk_found}
use Rattle.judge.proofs.places.find.Goals as goal

pub returns-in_err-ok : goal.returns-in_err-ok
unfolding stand_of
returns-in_err-ok c =
    let a = c.args in
    let b = a.body.now in
    let n = front_none c.front.result (sym c.in_err-ok.ensures.value) in
    c.from_residual.ensures
    ∙ sym (ap (λ (v : Verdict). placed_of (of_accepted v (sought b a.place)) (read_of b a.place)) (front_judged b n.0 (sym c.front.ensures ∙ n.1)))

pub returns-in_err-ok-2 : goal.returns-in_err-ok-2
unfolding stand_of
returns-in_err-ok-2 c =
    let a = c.args in
    let b = a.body.now in
    let e = (begun_front b (sym c.front.ensures ∙ front_some c.front.result c.in_ok-ok.field-0 (sym c.in_ok-ok.ensures.value))).0 in
    c.from_residual-in_err-ok-2.ensures
    ∙ walk_none (commands_of b) (sought b a.place) (read_of b a.place) (sym (ap result_ok c.walk.ensures) ∙ sym c.in_err-ok-2.ensures.value)
    ∙ sym (ap (λ (v : Verdict). placed_of (of_accepted v (sought b a.place)) (read_of b a.place)) e)

pub returns : goal.returns
unfolding stand_of
returns c =
    let a = c.args in
    let b = a.body.now in
    let e = (begun_front b (sym c.front.ensures ∙ front_some c.front.result c.in_ok-ok.field-0 (sym c.in_ok-ok.ensures.value))).0 in
    walk_found (commands_of b) (sought b a.place) (read_of b a.place) _ (sym (ap result_ok c.walk.ensures) ∙ sym c.in_ok-ok-2.ensures.value)
    ∙ sym (ap (λ (v : Verdict). placed_of (of_accepted v (sought b a.place)) (read_of b a.place)) e)
