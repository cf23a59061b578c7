-- `step` refuses a record whose frame is unsound, and steps the run of another.
use Prim.Native.Nat.{ℕ}
use mathlib.Core.List.{List}
use mathlib.Core.Path.{sym, ap, ◌∙◌}
use Rattle.sign.specs.Step.{stepped_of}
use Rattle.sign.proofs.Stepping.{framed_steps, unframed_steps}
use Rattle.sign.proofs.Sign.step.Goals as goal

pub returns-then-not-framed : goal.returns-then-not-framed
returns-then-not-framed c = sym (unframed_steps c.args.self (sym c.framed.ensures ∙ c.if-not-framed.true))

pub returns : goal.returns
returns c =
    let s = c.args.self in
    let w = c.step-went.result in
    ap (λ (x : List ℕ). record { sign = record { completed = s.completed; slots = s.slots; room = x; run = w.run }; answer = w.answer }) c.empty.ensures
    ∙ ap (stepped_of s) c.step-went.ensures
    ∙ sym (framed_steps s (sym c.framed.ensures ∙ c.if-not-framed.false))
