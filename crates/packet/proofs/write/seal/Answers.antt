-- `seal` lays 00h and the checksum behind the bytes that stand before them.
use Rattle.std.proofs.Common.{ℕ, ◌-◌, ◌%◌, ap, ◌∙◌}
use Rattle.packet.proofs.Laying.{seal_lays}
use Rattle.packet.proofs.write.seal.Goals as goal

pub returns : goal.returns
returns c =
    let a = c.args in
    let p = c.requires in
    seal_lays a.out.now a.at c.negated.result p.0 (c.negated.ensures ∙ ap (λ (n : ℕ). (256 - n) % 256) p.1)
