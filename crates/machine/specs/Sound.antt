-- Which runs are sound, with their body at the front of a room, part by part: rules R3 and R5 to R8.
use Rattle.std.specs.Prelude.{ℕ, List, Bool, false, eqb, leb, length, take, drop, Option, Some, None}
use Rattle.room.specs.Room.{zeros_of}
use Rattle.basis.specs.Choice.{when, ◌and◌, within}
use Rattle.judge.specs.Standing.{stand_of}
use Rattle.judge.specs.declared.Standing.{Standing}
use Rattle.judge.specs.declared.Standing.TheVariants.{Outside, Inside}
use Rattle.perform.specs.Settings.{sound_of as settings_sound}
use Rattle.machine.specs.declared.Loop.{Loop}
use Rattle.machine.specs.declared.Run.{Run}

-- the running body
abbrev pub body_of : List ℕ → Run → List ℕ
body_of room r = take r.len room

-- Ready has places and count 0
abbrev pub rests_of : ℕ → Loop → Bool
rests_of place l = eqb place 0 and eqb l.place 0 and eqb l.left 0

-- the loop place behind the enclosing `L` and a count left from 1 to its number inside a loop, both 0 outside
abbrev pub held_of : Option Standing → Loop → Bool
held_of None l = false
held_of (Some Outside) l = eqb l.place 0 and eqb l.left 0
held_of (Some (Inside behind number)) l = eqb l.place behind and within 1 l.left number

-- the room holds the body, and zeros after it
abbrev pub filled_of : List ℕ → ℕ → Bool
filled_of room len = leb len (length room) and zeros_of (drop len room)

-- Busy: an accepted body, and a place at one of its commands
abbrev pub runs_of : List ℕ → Run → Bool
runs_of room r = filled_of room r.len and held_of (stand_of (body_of room r) r.place) r.inner

-- a Ready run leaves the room to others
unfoldable pub sound_of : List ℕ → Run → Bool
sound_of room r = settings_sound r.settings and when (eqb r.len 0) (rests_of r.place r.inner) (runs_of room r)
