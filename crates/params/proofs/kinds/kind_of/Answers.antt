-- `params::kinds::kind_of` meets its contract: the row asked holds the byte's entry, and the table's rule says which kind that is.
use Prim.Native.Nat.{ℕ, ◌*◌, ◌/◌, ◌%◌, ◌^◌}
use mathlib.Core.Path.{ap, ◌∙◌}
use borrow.Author.Rules.{rules}
use Rattle.params.proofs.Entries.{entry_is}
use Rattle.params.proofs.kinds.kind_of.Goals as goal

pub returns : goal.returns
returns c =
    let x = c.args.x in
    ap (λ (n : ℕ). n / 2 ^ (x % 8 * 4) % 16) c.row-entries.ensures ∙ entry_is x (search rules)
