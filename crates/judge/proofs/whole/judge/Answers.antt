-- `judge::whole::judge` meets its contract: what the front refuses, then the commands.
use mathlib.Core.Path.{sym, ap, ◌∙◌}
use Rattle.std.proofs.Common.{Err}
use Rattle.std.proofs.lemmas.Result.{err_from_is_err_and}
use Rattle.judge.proofs.Turns.{front_judged, begun_front, walk_wrong, walk_right}
use Rattle.judge.proofs.whole.judge.Goals as goal

pub returns-in_err-front : goal.returns-in_err-front
returns-in_err-front c =
    let p = err_from_is_err_and c.from_residual.result c.from_residual.ensures.1 in
    p.1 ∙ ap Err p.2 ∙ sym (front_judged c.args.body.now _ (sym c.in_err-front.ensures))

pub returns-in_err-walk : goal.returns-in_err-walk
returns-in_err-walk c =
    let p = err_from_is_err_and c.from_residual-in_err-walk.result c.from_residual-in_err-walk.ensures.1 in
    p.1 ∙ ap Err p.2 ∙ walk_wrong _ _ _ c.in_err-walk.ensures ∙ sym (begun_front c.args.body.now (sym c.in_ok-front.ensures)).0

pub returns : goal.returns
returns c =
    walk_right _ _ _ c.in_ok-walk.ensures ∙ sym (begun_front c.args.body.now (sym c.in_ok-front.ensures)).0
