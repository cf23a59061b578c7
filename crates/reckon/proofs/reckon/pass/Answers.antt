use Prim.Native.Nat.{ℕ, ◌+◌}
use mathlib.Core.List.{List}
use mathlib.Core.Path.{◌≡◌, sym, ap, ◌∙◌}
use native.Mathlib.Omega.{arith}
use Rattle.program.specs.Command.{read_of}
use Rattle.program.proofs.Laws.{starts_within}
use Rattle.loops.specs.Token.{role_of, Tok, size_of, part_of, act_of}
use Rattle.loops.proofs.Tokens.{get_two}
use Rattle.reckon.specs.Reckon.{added_of, pass_of}
use Rattle.reckon.specs.declared.reckon.Reckoned.{Reckoned}
use Rattle.reckon.proofs.Reckons.{stands_good, pass_stops, pass_goes}
use Rattle.reckon.proofs.reckon.pass.Goals as goal

pub returns-then-not-plain : goal.returns-then-not-plain
returns-then-not-plain c =
    let b = c.args.body.now in
    let l = c.loop-command in
    let d = c.in-Ok.command in
    let e = ap (λ (x : List ℕ). read_of x l.at.place) (sym c.body.view_is) ∙ sym c.read_command.ensures ∙ c.in-Ok.is in
    c.added-at.ensures ∙ sym (pass_stops b l.at d e (sym c.plain.ensures ∙ c.if-not-plain.true)) ∙ l.invariant

pub loop-command-smaller : goal.loop-command-smaller
loop-command-smaller c =
    let b = c.args.body.now in
    let l = c.loop-command in
    let d = c.in-Ok.command in
    let e = ap (λ (x : List ℕ). read_of x l.at.place) (sym c.body.view_is) ∙ sym c.read_command.ensures ∙ c.in-Ok.is in
    let there = stands_good b l.at.place d e in
    let next : c.added-at.result.place ≡ l.at.place + size_of (part_of (role_of d.kind) (act_of b l.at.place d)) =
    ap (λ (x : Reckoned). x.place) c.added-at.ensures ∙ ap (λ (t : Tok). (added_of t l.at).place) there in
    let two = get_two b l.at.place (part_of (role_of d.kind) (act_of b l.at.place d)) there in
    let within = starts_within b l.at.place d e in
    omega arith

pub loop-command-preserved : goal.loop-command-preserved
loop-command-preserved c =
    let b = c.args.body.now in
    let l = c.loop-command in
    let d = c.in-Ok.command in
    let e = ap (λ (x : List ℕ). read_of x l.at.place) (sym c.body.view_is) ∙ sym c.read_command.ensures ∙ c.in-Ok.is in
    ap (pass_of b) c.added-at.ensures ∙ sym (pass_goes b l.at d e (sym c.plain.ensures ∙ c.if-not-plain.false)) ∙ l.invariant
