-- `fill` lends the front of the slot to a copy, which comes back as the data.
use Rattle.std.proofs.Common.{◌≡◌, ◌*◌, length, refl, arith, rules}
use Rattle.basis.proofs.Laid.{laid_copied}
use Rattle.hear.proofs.join.fill.Goals as goal

pub returns : goal.returns
returns c =
    let a = c.args in
    let r : length a.room.now ≡ 84 = search rules in
    laid_copied (14 * a.position) _ a.part.now a.room.now c.copy_from_slice.new.self refl (omega (arith, c.requires.0, c.requires.1)) c.copy_from_slice.ensures.after
