-- Which collections are sound, part by part: rules R4 and R5.
use Rattle.std.specs.Prelude.{Bool, not, eqb, ltb, leb}
use Rattle.basis.specs.Choice.{when, ◌and◌}
use Rattle.room.specs.Room.{zeros_of}
use Rattle.completed.specs.Completed.{has_of}
use Rattle.completed.specs.declared.Completed.{Completed}
use Rattle.collect.specs.Slots.{Collection, held_of, slots_of}
use Rattle.collect.specs.declared.Slots.{Slots}

-- the ID is one of a packet with data, and isn't completed
abbrev pub id_of : Completed → Collection → Bool
id_of completed c = leb c.id 0x3F and not (has_of completed c.id)

-- at least one and not all there
abbrev pub some_of : Collection → Bool
some_of c = not (eqb (held_of c.lens) 0) and ltb (held_of c.lens) c.total

-- none collected: no ID; otherwise the ID, the total and the count are right; and the slots in either case
unfoldable pub sound_of : Completed → Collection → Bool
sound_of completed c =
    when (eqb c.total 0) (eqb c.id 0) (id_of completed c and leb c.total 6 and some_of c)
    and slots_of c.total 0 c.lens c.room

-- nothing is collected: no ID, no total, no lengths
abbrev pub nothing_of : Slots → Bool
nothing_of s = eqb s.id 0 and eqb s.total 0 and zeros_of s.lens
