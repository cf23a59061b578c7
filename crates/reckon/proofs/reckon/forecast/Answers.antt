-- `forecast` refuses a setting out of range, then goes by the body's front, and tells what the walk over its commands does.
use mathlib.Core.Path.{sym, ap, refl, ◌∙◌}
use Rattle.std.proofs.lemmas.Result.{err_from_is_err_and}
use Rattle.judge.specs.Verdict.{judge_of}
use Rattle.judge.proofs.Turns.{front_judged}
use Rattle.reckon.specs.Forecast.{settings_at, walked_of}
use Rattle.reckon.proofs.Forecasts.{out_refused, in_range, tallies_price, exit_settled}
use Rattle.reckon.proofs.Walks.{told_same}
use Rattle.reckon.proofs.reckon.forecast.Goals as goal
use Rattle.std.proofs.Common.{List, ℕ, Err}

pub returns-then-not-sound : goal.returns-then-not-sound
returns-then-not-sound c = ap Err c.at.ensures ∙ sym (out_refused c.args.body.now c.args.pace c.args.scans (sym c.sound.ensures ∙ c.if-not-sound.true))

pub returns-in_err-front : goal.returns-in_err-front
returns-in_err-front c =
    let a = c.args in
    let b = a.body.now in
    let e = front_judged b _ (sym c.in_err-front.ensures) in
    let p = err_from_is_err_and c.from_residual.result c.from_residual.ensures.1 in
    p.1 ∙ ap Err p.2 ∙ sym (in_range b a.pace a.scans (sym c.sound.ensures ∙ c.if-not-sound.false) _ e)

pub returns : goal.returns
returns c =
    let a = c.args in
    let b = a.body.now in
    let set = sym c.sound.ensures ∙ c.if-not-sound.false in
    c.walk.ensures
    ∙ ap (λ (x : List ℕ). walked_of x (settings_at a.pace a.scans)) c.new.ensures
    ∙ told_same (judge_of b) _ _ _ _ (λ e. (tallies_price b e (settings_at a.pace a.scans) set, exit_settled b e (settings_at a.pace a.scans) set))
    ∙ sym (in_range b a.pace a.scans set (judge_of b) refl)
