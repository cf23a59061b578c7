-- `put` copies the lowest four bytes to the front.
use mathlib.Core.List.{◌++◌}
use mathlib.Core.Path.{ap, ◌∙◌}
use lib.ListN.{take, drop}
use Rattle.basis.specs.Bytes.{laid}
use Rattle.words.proofs.laying.put.Goals as goal

pub returns : goal.returns
unfolding laid
returns c = ap (λ bytes. bytes ++ drop 4 c.args.out.now) (c.copy_from_slice.ensures.after ∙ ap (take 4) c.to_le_bytes-bytes.ensures)
