use borrow.Author.Rules.{rules}
use Rattle.collect.proofs.Turns.{held_next, held_past}
use lib.ListN.{length}
use native.Mathlib.Omega.{arith}
use mathlib.Core.Path.{◌≡◌}
use Rattle.std.proofs.lemmas.Grind.{common_steps}
use Rattle.collect.proofs.sound.held.Goals as goal

pub loop-len-preserved : goal.loop-len-preserved
loop-len-preserved c =
    let s = c.args.lens in
    let l : length s ≡ 6 = search rules in
    let i = c.loop-len.len-index in
    let next = held_next s i (search rules) in
    grind (arith, common_steps)

pub returns : goal.returns
returns c =
    let s = c.args.lens in
    let l : length s ≡ 6 = search rules in
    omega (arith, held_past s c.loop-len.len-index (omega arith))
