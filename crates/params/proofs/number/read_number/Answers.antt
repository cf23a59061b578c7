use Prim.Native.Nat.{◌+◌, ◌*◌, ◌-◌}
use mathlib.Core.Path.{ap, ◌∙◌}
use native.Mathlib.Omega.{arith}
use lib.ListN.{drop}
use Rattle.std.proofs.Common.{Err}
use Rattle.params.specs.Bytes.{param_of}
use Rattle.params.proofs.Numbers.{number_wrong, value_grows, next_value}
use Rattle.params.proofs.number.read_number.Goals as goal

pub returns-then-range-value : goal.returns-then-range-value
returns-then-range-value c =
    let l = c.loop-x in
    let a = c.args in
    let v = l.value * 10 + (c.byte_at.result - 0x30) in
    ap Err c.at-wrong.ensures
    ∙ number_wrong a.range.least a.range.greatest a.range.digits a.place a.from (param_of (drop a.from a.body.now))
    (λ d one few low high.
    let k = next_value a.body.now a.from l.at l.value c.byte_at.result l.invariant.3 c.byte_at.ensures (λ e. omega arith) in
    let g = value_grows (param_of (drop (l.at + 1) a.body.now)) v in
    omega arith)
