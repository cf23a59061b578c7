-- Which completed IDs, slots and room are sound beside the length of a running body (0: Ready): all of a record but its run.
-- Rules R2, R4, R5 and R7. The room of a Busy sign holds the body, which the soundness of its run is about.
use Rattle.std.specs.Prelude.{ℕ, Bool, eqb}
use Rattle.basis.specs.Choice.{when, ◌and◌}
use Rattle.completed.specs.Completed.{sound_of as completed_sound}
use Rattle.completed.specs.declared.Completed.{Completed}
use Rattle.collect.specs.Slots.{Collection, slots_in}
use Rattle.collect.specs.Sound.{nothing_of, sound_of as collection_sound}

abbrev pub framed_by : Completed → Collection → ℕ → Bool
framed_by completed c len = completed_sound completed and when (eqb len 0) (collection_sound completed c) (nothing_of (slots_in c))
