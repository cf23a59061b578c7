-- `cleared` leaves slots that hold nothing, zeros in the room, and no completed ID.
use mathlib.Core.Path.{ap, ◌∙◌}
use lib.ListN.{replicate}
use Rattle.std.specs.Prelude.{Ok}
use Rattle.completed.specs.declared.Completed.{Completed}
use Rattle.collect.specs.Slots.{begun_of, collection_of, none_of}
use Rattle.collect.specs.declared.Slots.{Slots}
use Rattle.hear.specs.declared.Outcome.TheVariants.{Reset}
use Rattle.hear.proofs.hearing.cleared.Goals as goal

pub returns : goal.returns
unfolding begun_of
returns c =
    ap (λ (s : Slots). record { outcome = Ok Reset; completed = c.none.result; collection = collection_of s (replicate 84 0) }) c.begun.ensures
    ∙ ap (λ (d : Completed). record { outcome = Ok Reset; completed = d; collection = none_of }) c.none.ensures
