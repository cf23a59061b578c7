-- `zeros` takes the greatest byte, which is 0 only if all are.
use mathlib.Core.Path.{◌≡◌, ap, ◌∙◌}
use lib.Dec.{eqb}
use borrow.Author.Rules.{rules}
use Rattle.std.specs.Prelude.{max}
use Rattle.std.specs.List.{fold}
use Rattle.room.proofs.Blanks.{greatest_zero}
use Rattle.room.proofs.zeros.Goals as goal

pub returns : goal.returns
returns c =
    let most : c.fold.result ≡ fold (λ a x. max a x) 0 c.args.bytes.now = search rules in
    ap (λ n. eqb n 0) most ∙ greatest_zero 0 c.args.bytes.now
