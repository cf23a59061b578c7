-- `last` is the first of the IDs, where there is one.
use mathlib.Core.Path.{sym}
use borrow.Author.Rules.{rules}
use Rattle.completed.specs.Completed.{last_of}
use Rattle.completed.proofs.Lists.{newest_none, newest_some}
use Rattle.completed.proofs.Completed.last.Goals as goal

pub returns-then-self-eq0 : goal.returns-then-self-eq0
unfolding last_of
returns-then-self-eq0 c =
    let a = c.args.self in
    sym (newest_none a.count a.ids c.if-self-eq0.true)

pub returns-else-self-eq0 : goal.returns-else-self-eq0
unfolding last_of
returns-else-self-eq0 c =
    let a = c.args.self in
    sym (newest_some a.count a.ids (search rules) c.if-self-eq0.false)
