-- `fresh` holds nothing and is Ready.
use mathlib.Core.Path.{ap, ◌∙◌}
use lib.ListN.{replicate}
use Rattle.completed.specs.Completed.{none_of as no_completed}
use Rattle.completed.specs.declared.Completed.{Completed}
use Rattle.collect.specs.Slots.{begun_of, none_of, slots_in}
use Rattle.collect.specs.declared.Slots.{Slots}
use Rattle.machine.specs.declared.Run.{Run}
use Rattle.sign.specs.Reset.{fresh_of}
use Rattle.sign.proofs.reset.fresh.Goals as goal

pub returns : goal.returns
unfolding fresh_of begun_of
returns c =
    ap (λ (x : Completed). record { completed = x; slots = c.begun-slots.result; room = replicate 84 0; run = c.rested-run.result }) c.none-completed.ensures
    ∙ ap (λ (x : Slots). record { completed = no_completed; slots = x; room = replicate 84 0; run = c.rested-run.result }) c.begun-slots.ensures
    ∙ ap (λ (x : Run). record { completed = no_completed; slots = slots_in none_of; room = replicate 84 0; run = x }) c.rested-run.ensures
