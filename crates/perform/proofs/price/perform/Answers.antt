use Prim.Native.Nat.{◌%◌}
use Rattle.perform.proofs.Answered.{answer_is}
use Rattle.perform.proofs.price.perform.Goals as goal

pub returns : goal.returns
returns c =
    let a = c.args in
    let d = a.command in
    answer_is d.kind (d.number % 256) d.text d.len a.widths a.settings c.acts-doing.result c.shown.result c.column.result
    c.scans-cost.result
    c.millis.result
    c.acts-doing.ensures
    c.scans-cost.ensures
    c.shown.ensures
    c.column.ensures
    c.millis.ensures
