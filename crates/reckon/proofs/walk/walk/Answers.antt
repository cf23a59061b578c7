use Prim.Native.Nat.{ℕ, ◌<◌, ◌≤◌}
use mathlib.Core.List.{List}
use mathlib.Core.Path.{sym, ap, ◌∙◌}
use lib.ListN.{length}
use native.Mathlib.Omega.{arith}
use Rattle.program.specs.Command.{read_of}
use Rattle.program.specs.declared.Command.{Command}
use Rattle.refusal.specs.declared.Fault.{Fault}
use Rattle.std.proofs.Common.{Result, Err}
use Rattle.loops.specs.Flow.{turned_of}
use Rattle.judge.specs.Verdict.{Verdict}
use Rattle.std.proofs.lemmas.Result.{err_from_is_err_and}
use Rattle.loops.proofs.Moves.{turned_is}
use Rattle.judge.proofs.Turns.{place_grows, on_stop, begun_front}
use Rattle.course.specs.Tree.{exit_of, tree_in}
use Rattle.reckon.specs.Forecast.{prices_of, by_verdict}
use Rattle.reckon.proofs.Walks.{stands_next, stands_end, stands_first}
use Rattle.reckon.proofs.walk.walk.Goals as goal

pub loop-sums-init : goal.loop-sums-init
loop-sums-init c = stands_first c.args.body.now c.args.settings c.none.result c.none-2.result c.none.ensures

pub returns-in_err-turn : goal.returns-in_err-turn
returns-in_err-turn c =
    let b = c.args.body.now in
    let l = c.loop-sums in
    let within : l.sums.at.place < length b = omega (arith, ap length c.body.view_is, c.loop-sums-test.true) in
    let σ = c.args.settings in
    let e = sym (turned_is b l.sums.at.place l.flow) ∙ ap (λ (x : List ℕ). turned_of (read_of x l.sums.at.place) l.sums.at.place l.flow) (sym c.body.view_is) ∙ ap (λ (r : Result Command Fault). turned_of r l.sums.at.place l.flow) (sym c.read_command-read.ensures) ∙ sym c.in_err-turn.ensures in
    let p = err_from_is_err_and c.from_residual.result c.from_residual.ensures.1 in
    p.1 ∙ ap Err p.2
    ∙ ap (λ (v : Verdict). by_verdict v (prices_of (tree_in b).block σ) (exit_of (tree_in b).block σ)) (sym (on_stop b l.sums.at.place _ l.flow within e) ∙ l.invariant.0 ∙ sym (begun_front b c.requires).0)

pub loop-sums-smaller : goal.loop-sums-smaller
loop-sums-smaller c =
    let b = c.args.body.now in
    let l = c.loop-sums in
    let e = sym (turned_is b l.sums.at.place l.flow) ∙ ap (λ (x : List ℕ). turned_of (read_of x l.sums.at.place) l.sums.at.place l.flow) (sym c.body.view_is) ∙ ap (λ (r : Result Command Fault). turned_of r l.sums.at.place l.flow) (sym c.read_command-read.ensures) ∙ sym c.in_ok-turn.ensures in
    let g = place_grows b l.sums.at.place c.in_ok-turn.turn.next l.flow c.in_ok-turn.turn.flow e in
    let within : l.sums.at.place < length b = omega (arith, ap length c.body.view_is, c.loop-sums-test.true) in
    let next = stands_next b _ _ c.in_ok-turn.turn.next l.flow c.in_ok-turn.turn.flow l.sums c.summed-sums.result within e c.summed-sums.ensures l.invariant in
    omega (arith, next.0)

pub loop-sums-preserved : goal.loop-sums-preserved
loop-sums-preserved c =
    let b = c.args.body.now in
    let l = c.loop-sums in
    let within : l.sums.at.place < length b = omega (arith, ap length c.body.view_is, c.loop-sums-test.true) in
    let e = sym (turned_is b l.sums.at.place l.flow) ∙ ap (λ (x : List ℕ). turned_of (read_of x l.sums.at.place) l.sums.at.place l.flow) (sym c.body.view_is) ∙ ap (λ (r : Result Command Fault). turned_of r l.sums.at.place l.flow) (sym c.read_command-read.ensures) ∙ sym c.in_ok-turn.ensures in
    (stands_next b _ _ c.in_ok-turn.turn.next l.flow c.in_ok-turn.turn.flow l.sums c.summed-sums.result within e c.summed-sums.ensures l.invariant).1

pub returns : goal.returns
returns c =
    let b = c.args.body.now in
    let l = c.loop-sums in
    let past : length b ≤ l.sums.at.place = omega (arith, ap length c.body.view_is, c.loop-sums-test.false) in
    c.told.ensures ∙ stands_end b _ _ l.flow l.sums past (begun_front b c.requires).0 l.invariant
