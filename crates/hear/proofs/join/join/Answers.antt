-- `join` judges in the order of J3: Repeat, 12, then by the slots that the packet goes into.
use mathlib.Core.Path.{sym, ◌∙◌}
use Rattle.collect.specs.Slots.{collection_of}
use Rattle.hear.specs.Join.{left_of}
use Rattle.hear.proofs.Joining.{taking_slots, join_into}
use borrow.Author.Rules.{rules}
use Rattle.hear.proofs.join.join.Goals as goal

pub goes_into-requires : goal.goes_into-requires
goes_into-requires c =
    let a = c.args in
    (taking_slots a.completed (collection_of a.slots a.room.now) a.id a.total (collection_of c.taking-into.result c.taking-into.new.room) (c.requires.0 (search rules)) c.taking-into.ensures, c.requires.1)

pub returns : goal.returns
returns c =
    let a = c.args in
    join_into a.completed (collection_of a.slots a.room.now) a.len a.id a.total a.position a.part.now (collection_of c.taking-into.result c.taking-into.new.room) (left_of c.goes_into.result c.goes_into.new.room) c.requires.1 (sym c.has.ensures ∙ c.if-has.false)
    (search rules)
    c.taking-into.ensures
    c.goes_into.ensures
