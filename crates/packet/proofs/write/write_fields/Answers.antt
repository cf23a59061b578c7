-- `write_fields` lays the front, the data behind it and the seal behind both, and knows their sum from the two that were laid.
use Rattle.std.proofs.Common.{List, ℕ, ◌++◌, drop, refl, ap, ◌∙◌, rules}
use Rattle.basis.specs.Bytes.{laid}
use Rattle.packet.proofs.Laying.{both_sum, packet_lays}
use Rattle.packet.proofs.write.write_fields.Goals as goal

pub seal-requires : goal.seal-requires
unfolding laid
seal-requires c =
    let a = c.args in
    let f = ap (λ (p : List ℕ). p ++ drop 5 a.out.now) c.copy_from_slice.ensures.after in
    let d = c.write_data-data in (
      search rules,
      both_sum a.mid a.id a.fifth a.part.now a.out.now _ d.new.out c.requires.1 f d.ensures.out_after _ c.sum_of-ahead.result d.result refl
          c.sum_of-ahead.ensures
          d.ensures.value,
    )

pub returns : goal.returns
unfolding laid
returns c =
    let a = c.args in
    let f = ap (λ (p : List ℕ). p ++ drop 5 a.out.now) c.copy_from_slice.ensures.after in
    let d = c.write_data-data in
    c.seal.ensures ∙ packet_lays a.mid a.id a.fifth a.part.now a.out.now _ d.new.out c.requires.1 f d.ensures.out_after
