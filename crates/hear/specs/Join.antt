-- A normal packet that passed the reader, judged in the order of J3 and joined: J4 to J10, N12 and N13.
-- The order is said once, of what stays and of what a collection comes to with the packet in it; here those are what is
-- heard, and in `sign` they are records.
use Rattle.std.specs.Prelude.{ℕ, ◌+◌, ◌*◌, ◌≤◌, ◌<◌, List, Bool, true, not, ◌≡◌, eqb, leb, length, get_or, take, drop, replicate, Result, Ok, Err}
use Rattle.basis.specs.Choice.{when, ◌or◌}
use Rattle.refusal.specs.declared.Refusal.{Refusal}
use Rattle.refusal.specs.declared.Refusal.TheVariants.{Busy, OtherPacket}
use Rattle.judge.specs.Verdict.{judge_of}
use Rattle.room.specs.Room.{room_of}
use Rattle.completed.specs.Completed.{none_of as no_completed, has_of, added_of}
use Rattle.completed.specs.declared.Completed.{Completed}
use Rattle.collect.specs.Slots.{Collection, collection_of, held_of, slots_of, joined_of, same_of, begun_of, none_of, stored_of}
use Rattle.hear.specs.declared.Heard.{Heard}
use Rattle.hear.specs.declared.Outcome.{Outcome}
use Rattle.hear.specs.declared.Outcome.TheVariants.{Reset, Repeat, Stored, Released}

-- Released if all N are held, otherwise Stored
abbrev pub count_by : {A : Type 0} → (stored released : Collection → A) → Collection → A
count_by stored released c = when (leb c.total (held_of c.lens)) (released c) (stored c)

-- the data held at a position
abbrev pub slot_of : Collection → ℕ → List ℕ
slot_of c position = take (get_or c.lens position 0) (drop (14 * position) c.room)

-- other N than the collection's: 13; position already held: equal data Repeat, other data 13
abbrev pub goes_by : {A : Type 0} → (stays : Result Outcome Refusal → A) → (counted : Collection → A) → Collection → (total position : ℕ) → List ℕ → A
goes_by stays counted c total position part =
    when (not (eqb c.total total)) (stays (Err OtherPacket))
    (when (eqb (get_or c.lens position 0) 0) (counted (stored_of c position part))
    (when (same_of (slot_of c position) part) (stays (Ok Repeat)) (stays (Err OtherPacket))))

-- none collected, or another ID than the one collected
abbrev pub begins_of : Collection → ℕ → Bool
begins_of c id = eqb c.total 0 or not (eqb c.id id)

-- the collection that a packet goes into: a new one where it begins
abbrev pub taking_of : Collection → ℕ → ℕ → Collection
taking_of c id total = when (begins_of c id) (begun_of id total) c

-- a completed ID: Repeat; Busy: 12; another ID begins; the same goes on
abbrev pub join_by : {A : Type 0} → (stays : Result Outcome Refusal → A) → (counted : Collection → A) → Completed → Collection → (len id total position : ℕ) → List ℕ → A
join_by stays counted completed c len id total position part =
    when (has_of completed id) (stays (Ok Repeat))
    (when (not (eqb len 0)) (stays (Err Busy))
    (when (begins_of c id) (counted (stored_of (begun_of id total) position part)) (goes_by stays counted c total position part)))

-- what bytes leave: the outcome, the completed IDs, and what is collected with its room
pub record Left : Type 0 where
  pub outcome : Result Outcome Refusal
  pub completed : Completed
  pub collection : Collection

-- an answer and the room as it was left
abbrev pub left_of : Heard → List ℕ → Left
left_of h room = record { outcome = h.outcome; completed = h.completed; collection = collection_of h.slots room }

-- nothing changes
abbrev pub stay_of : Completed → Collection → Result Outcome Refusal → Left
stay_of completed c outcome = record { outcome = outcome; completed = completed; collection = c }

-- a reset: nothing is collected, and no ID is completed
abbrev pub reset_left : Left
reset_left = record { outcome = Ok Reset; completed = no_completed; collection = none_of }

-- no slot is held, and the room holds a body
abbrev pub body_in : List ℕ → Collection
body_in body = record { id = 0; total = 0; lens = replicate 6 0; room = room_of body }

-- Released: this body is judged, its ID is completed, and nothing is being collected
abbrev pub released_of : Completed → ℕ → List ℕ → Left
released_of completed id body = record { outcome = Ok (Released (judge_of body) (length body)); completed = added_of completed id; collection = body_in body }

-- the data joined by position is the body
abbrev pub whole_of : Completed → Collection → Left
whole_of completed c = released_of completed c.id (joined_of c.lens c.room)

-- Released if all N are held, otherwise Stored
abbrev pub count_of : Completed → Collection → Left
count_of completed c = count_by (λ (d : Collection). stay_of completed d (Ok Stored)) (whole_of completed) c

-- what the reader lets pass: N 1 to 6, position below N, 1 to 14 data bytes, and 14 before the last
pub record Right (total position len : ℕ) : Type 0 where
  pub least : 1 ≤ total
  pub most : total ≤ 6
  pub below : position < total
  pub some : 1 ≤ len
  pub few : len ≤ 14
  pub full : position + 1 < total → len ≡ 14

-- a collection with a free position for such a packet
pub record Open (c : Collection) (position len : ℕ) : Type 0 where
  pub right : Right c.total position len
  pub slots : slots_of c.total 0 c.lens c.room ≡ true
  pub free : get_or c.lens position 0 ≡ 0

-- a collection of which all packets are held
pub record Whole (c : Collection) : Type 0 where
  pub least : 1 ≤ c.total
  pub most : c.total ≤ 6
  pub slots : slots_of c.total 0 c.lens c.room ≡ true
  pub full : c.total ≤ held_of c.lens
