use mathlib.Core.Path.{sym, ap, ◌∙◌}
use native.Mathlib.Omega.{arith}
use Rattle.loops.specs.Flow.{opens_of, turned_of}
use Rattle.judge.specs.Verdict.{Verdict}
use Rattle.judge.specs.Standing.{inside_of, placed_of, walked_of}
use Rattle.program.specs.declared.Command.{Command}
use Rattle.refusal.specs.declared.Fault.{Fault}
use Rattle.std.proofs.Common.{Result, Err, Some}
use Rattle.std.proofs.lemmas.Result.{err_from_is_err_and}
use Rattle.loops.proofs.Moves.{turned_is}
use Rattle.judge.proofs.Turns.{place_grows, on_stop, on_next, met, looked_here, looked_past}
use Rattle.judge.proofs.walk.walk.Goals as goal
use Rattle.judge.proofs.walk.walk.Goals.{then-at-place, else-at-place}

pub returns-in_err-turn : goal.returns-in_err-turn
returns-in_err-turn c =
    let b = c.args.body.now in
    let l = c.loop-at in
    let e = sym (turned_is b l.at l.flow) ∙ ap (λ (r : Result Command Fault). turned_of r l.at l.flow) (sym c.read_command-read.ensures) ∙ sym c.in_err-turn.ensures in
    let p = err_from_is_err_and c.from_residual.result c.from_residual.ensures.1 in
    let stopped = sym (on_stop b l.at _ l.flow c.loop-at-test.true e) ∙ l.invariant.0 in
    p.1 ∙ ap Err p.2 ∙ ap (λ (v : Verdict). walked_of v (met b c.args.place)) stopped

pub loop-at-smaller : goal.loop-at-smaller
loop-at-smaller c =
    let b = c.args.body.now in
    let l = c.loop-at in
    let e = sym (turned_is b l.at l.flow) ∙ ap (λ (r : Result Command Fault). turned_of r l.at l.flow) (sym c.read_command-read.ensures) ∙ sym c.in_ok-turn.ensures in
    let g = place_grows b l.at c.in_ok-turn.turn.next l.flow c.in_ok-turn.turn.flow e in
    let h = c.loop-at-test.true in
    omega arith

pub loop-at-preserved : goal.loop-at-preserved
loop-at-preserved c =
    let a = c.args in
    let b = a.body.now in
    let l = c.loop-at in
    let e = sym (turned_is b l.at l.flow) ∙ ap (λ (r : Result Command Fault). turned_of r l.at l.flow) (sym c.read_command-read.ensures) ∙ sym c.in_ok-turn.ensures in
    let h = c.loop-at-test.true in
    let i = c.if-at-place in
    let less = place_grows b l.at c.in_ok-turn.turn.next l.flow c.in_ok-turn.turn.flow e in (
      sym (on_next b l.at c.in_ok-turn.turn.next l.flow c.in_ok-turn.turn.flow h e) ∙ l.invariant.0,
      elim i.branch [
        | then-at-place w ↦ looked_here b a.place l.at c.in_ok-turn.turn.next l.flow c.in_ok-turn.turn.flow l.found i.found h less l.invariant.1 w.if-at-place.true (w.found-is ∙ w.placed-found.ensures ∙ ap (placed_of (Some (inside_of (opens_of l.flow)))) c.read_command-read.ensures)
        | else-at-place w ↦ looked_past b a.place l.at c.in_ok-turn.turn.next l.flow c.in_ok-turn.turn.flow l.found i.found h less e l.invariant.1 w.if-at-place.false w.found-is
      ],
    )
