-- The IDs that a sign has completed since its reset, the last four of them (J1; C-23): which are Repeats (J4), which is
-- told as the last (W10), what a completion (J10), a reset (J14) and power-on (J15) leave of them, and which are sound (R2, R5).
use Rattle.std.specs.Prelude.{ℕ, ◌+◌, Bool, true, false, not, List, [], ◌∷◌, eqb, ltb, leb, take, drop, replicate}
use Rattle.basis.specs.Choice.{when, ◌and◌, ◌or◌}
use Rattle.room.specs.Room.{zeros_of}
use Rattle.completed.specs.declared.Completed.{Completed}

-- the completed IDs, newest first
abbrev pub ids_of : Completed → List ℕ
ids_of d = take d.count d.ids

-- none since the reset
unfoldable pub none_of : Completed
none_of = record { count = 0; ids = replicate 4 0 }

-- the newest, 41h if there is none
abbrev pub newest_of : List ℕ → ℕ
newest_of [] = 0x41
newest_of (id ∷ ids) = id

-- the last completed ID, as the reply tells it
unfoldable pub last_of : Completed → ℕ
last_of d = newest_of (ids_of d)

-- an ID is one of these
abbrev pub is_among : ℕ → List ℕ → Bool
is_among id [] = false
is_among id (x ∷ xs) = eqb id x or is_among id xs

-- packets of this ID are Repeats
unfoldable pub has_of : Completed → ℕ → Bool
has_of d id = is_among id (ids_of d)

-- one more, and four at most
abbrev pub more_of : ℕ → ℕ
more_of count = when (ltb count 4) (count + 1) 4

-- after this ID is completed: it is the newest, and the fifth is forgotten
unfoldable pub added_of : Completed → ℕ → Completed
added_of d id = record { count = more_of d.count; ids = id ∷ take 3 d.ids }

-- each is an ID of a packet with data, and none of them stands twice
abbrev pub differ_of : List ℕ → Bool
differ_of [] = true
differ_of (id ∷ ids) = leb id 0x3F and not (is_among id ids) and differ_of ids

-- none to four, all different, and zeros in place of those that are missing
unfoldable pub sound_of : Completed → Bool
sound_of d = leb d.count 4 and differ_of (ids_of d) and zeros_of (drop d.count d.ids)
