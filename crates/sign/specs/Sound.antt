-- Which records are sound, part by part (R1 to R8), and no part more (R9).
-- While Ready the room is the collected packets', while Busy it is the running body's.
use Rattle.std.specs.Prelude.{Bool, eqb}
use Rattle.basis.specs.Choice.{when, ◌and◌}
use Rattle.completed.specs.Completed.{sound_of as completed_sound}
use Rattle.collect.specs.Slots.{Collection, collection_of}
use Rattle.collect.specs.Sound.{nothing_of, sound_of as collection_sound}
use Rattle.machine.specs.Sound.{sound_of as run_sound}
use Rattle.hear.specs.Frame.{framed_by}
use Rattle.sign.specs.declared.Sign.{Sign}

-- the slots with the room
abbrev pub collected_of : Sign → Collection
collected_of s = collection_of s.slots s.room

-- Ready: the collected packets are sound; Busy collects nothing
abbrev pub collects_of : Sign → Bool
collects_of s = when (eqb s.run.len 0) (collection_sound s.completed (collected_of s)) (nothing_of s.slots)

unfoldable pub sound_of : Sign → Bool
sound_of s = completed_sound s.completed and run_sound s.room s.run and collects_of s

-- all of it but the run
abbrev pub framed_of : Sign → Bool
framed_of s = framed_by s.completed (collected_of s) s.run.len
