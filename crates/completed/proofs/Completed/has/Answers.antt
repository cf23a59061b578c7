-- `has` asks among as many as there are, which are four at most.
use mathlib.Core.Path.{◌≡◌, ap, ◌∙◌}
use lib.ListN.{length, take}
use borrow.Author.Rules.{rules}
use Rattle.completed.specs.Completed.{is_among, has_of}
use Rattle.completed.proofs.Lists.{take_most}
use Rattle.completed.proofs.Completed.has.Goals as goal

pub returns : goal.returns
unfolding has_of
returns c =
    let a = c.args in
    let size : length a.self.ids ≡ 4 = search rules in
    c.among.ensures ∙ ap (λ n. is_among a.id (take n a.self.ids)) c.min-known.ensures ∙ ap (is_among a.id) (take_most a.self.count a.self.ids size)
