-- `perform` performs a command whose text is measured to its end.
use Prim.Native.Nat.{◌%◌}
use mathlib.Core.Path.{ap, ◌∙◌}
use native.Mathlib.Omega.{arith}
use Rattle.measure.proofs.Columns.{part_all}
use Rattle.measure.specs.declared.width.Widths.{Widths}
use Rattle.perform.specs.Price.{answer_of}
use Rattle.reckon.proofs.body.Body.perform.Goals as goal

pub returns : goal.returns
returns c =
    let a = c.args in
    let d = a.command in
    rw (← c.self.view_is)
    (c.perform_at.ensures
    ∙ ap (λ (w : Widths). answer_of d.kind (d.number % 256) d.text d.len w a.settings) (part_all c.self.inside.bytes.now d.text d.len (omega (arith, c.self.invariant))))
