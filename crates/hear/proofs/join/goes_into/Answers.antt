-- `goes_into` judges a packet by the slots: 13, a free position, or the data held there.
use native.Mathlib.Omega.{arith}
use Rattle.collect.specs.Slots.{collection_of}
use Rattle.hear.proofs.Joining.{held_most_14}
use Rattle.hear.proofs.join.goes_into.Goals as goal

pub holds-requires : goal.holds-requires
holds-requires c =
    let a = c.args in
    (omega (arith, c.requires.1.below, c.requires.1.most), held_most_14 (collection_of a.slots a.room.now) a.position c.requires.0)
