-- `with` puts the new ID in front of the first three.
use Prim.Native.Nat.{ℕ}
use mathlib.Core.List.{List, [], ◌∷◌}
use mathlib.Core.Path.{◌≡◌, sym, ap, ◌∙◌}
use lib.ListN.{length, get_or}
use borrow.Author.Rules.{rules}
use Rattle.completed.specs.Completed.{more_of, added_of}
use Rattle.completed.proofs.Lists.{first_three}
use Rattle.completed.proofs.Completed.with.Goals as goal

pub returns : goal.returns
unfolding added_of
returns c =
    let a = c.args in
    let size : length a.self.ids ≡ 4 = search rules in
    ap (λ (n : ℕ). record { count = n; ids = a.id ∷ get_or a.self.ids 0 0 ∷ get_or a.self.ids 1 0 ∷ get_or a.self.ids 2 0 ∷ [] }) c.more.ensures
    ∙ ap (λ (xs : List ℕ). record { count = more_of a.self.count; ids = a.id ∷ xs }) (sym (first_three a.self.ids size))
