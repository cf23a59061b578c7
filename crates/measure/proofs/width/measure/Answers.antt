use mathlib.Core.Path.{◌∙◌}
use borrow.Author.Rules.{rules}
use Rattle.measure.proofs.Columns.{goes_on_lem}
use Rattle.measure.proofs.width.measure.Goals as goal

pub loop-x-preserved : goal.loop-x-preserved
loop-x-preserved c =
    let l = c.loop-x in
    let s = c.args.text.now in
    let n = goes_on_lem l.got c.with-got.result s l.x-index l.invariant.0 (search rules) c.with-got.ensures in
    (n.0, n.1, n.2 ∙ l.invariant.2)
