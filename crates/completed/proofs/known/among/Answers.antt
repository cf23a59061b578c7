-- `among` asks whether any of them is the ID.
use mathlib.Core.Path.{◌∙◌}
use Rattle.std.proofs.Common.{eqb, rules, tests}
use Rattle.std.proofs.lemmas.Iterator.{YieldsList-from_slice}
use Rattle.std.proofs.lemmas.Iterator.Search.{any_from_yields_List}
use Rattle.completed.proofs.Lists.{any_among}
use Rattle.completed.proofs.known.among.Goals as goal

pub returns : goal.returns
returns c =
    let ids = c.args.ids.now in
    let id = c.args.id in
    any_from_yields_List (eqb id) _ _ c.any.result c.any.ensures.ran (YieldsList-from_slice ids cc) (λ x b q k. search (rules, tests)) ∙ any_among id ids
