use Rattle.std.proofs.Common.{ℕ, ◌<◌, ◌≤◌, List, length, ap, ◌∙◌, arith, length-set, take_all, rules}
use Rattle.basis.specs.Bytes.{laid}
use Rattle.basis.proofs.Sums.{sum_next, sum_past}
use Rattle.packet.proofs.Laying.{next_laid}
use Rattle.packet.proofs.write.write_data.Goals as goal

pub loop-i-init : goal.loop-i-init
unfolding laid
loop-i-init c = search rules

pub loop-i-preserved : goal.loop-i-preserved
loop-i-preserved c =
    let a = c.args in
    let l = c.loop-i in
    let below : l.i < length a.part.now = search rules in (
      omega (arith, sum_next a.part.now l.i below),
      (next_laid a.part.now a.out.now l.out l.i below (search rules) l.invariant.1.0, simp length-set (search rules)),
    )

pub returns : goal.returns
returns c =
    let a = c.args in
    let l = c.loop-i in
    let end : length a.part.now ≤ l.i = search rules in
    record { out_after = l.invariant.1.0 ∙ ap (λ (p : List ℕ). laid p a.out.now) (take_all l.i a.part.now end); value = omega (arith, sum_past a.part.now l.i end) }
