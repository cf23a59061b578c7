-- A normal packet that passed the reader, judged and joined: J4 to J12. The order is `hear`'s, and here are the records
-- after it.
use Rattle.std.specs.Prelude.{ℕ, List, length, replicate, Ok, Err, Result}
use Rattle.refusal.specs.declared.Refusal.{Refusal}
use Rattle.room.specs.Room.{room_of}
use Rattle.judge.specs.Verdict.{Verdict, judge_of}
use Rattle.completed.specs.Completed.{added_of}
use Rattle.completed.specs.declared.Completed.{Completed}
use Rattle.collect.specs.Slots.{Collection, slots_in, joined_of, none_of, stored_of}
use Rattle.machine.specs.Step.{started_of}
use Rattle.machine.specs.declared.Run.{Run}
use Rattle.hear.specs.Join.{count_by, goes_by, join_by, body_in}
use Rattle.hear.specs.declared.Outcome.{Outcome}
use Rattle.hear.specs.declared.Outcome.TheVariants.{Stored, Released}
use Rattle.sign.specs.Sound.{collected_of}
use Rattle.sign.specs.declared.Sign.{Sign}
use Rattle.sign.specs.declared.Received.{Received}

-- the record of completed IDs, what is collected with its room, and a run
abbrev pub sign_of : Completed → Collection → Run → Sign
sign_of completed c run = record { completed = completed; slots = slots_in c; room = c.room; run = run }

-- nothing changes, and no body comes with the answer
unfoldable pub stays_of : Sign → Result Outcome Refusal → Received
stays_of s outcome = record { sign = s; outcome = outcome; body = replicate 84 0 }

-- an accepted body runs; with another the sign stays Ready
abbrev pub starts_of : Verdict → Sign → Sign → Sign
starts_of (Ok e) runs rests = runs
starts_of (Err w) runs rests = rests

-- Stored: the collection with the packet in it
abbrev pub stores_of : Sign → Collection → Received
stores_of s c = stays_of (sign_of s.completed c s.run) (Ok Stored)

-- Released: the body comes with the answer, nothing is being collected, the ID is completed
unfoldable pub release_of : Sign → ℕ → List ℕ → Received
release_of s id body =
    record {
      sign = starts_of (judge_of body) (sign_of (added_of s.completed id) (body_in body) (started_of (length body) s.run.settings)) (sign_of (added_of s.completed id) none_of s.run);
      outcome = Ok (Released (judge_of body) (length body));
      body = room_of body;
    }

-- the data joined by position is the body
abbrev pub released_of : Sign → Collection → Received
released_of s c = release_of s c.id (joined_of c.lens c.room)

-- Released if all N are held, otherwise Stored
abbrev pub counted_of : Sign → Collection → Received
counted_of s c = count_by (stores_of s) (released_of s) c

abbrev pub placed_of : Sign → Collection → ℕ → List ℕ → Received
placed_of s c position part = counted_of s (stored_of c position part)

-- a packet of the ID that is being collected
abbrev pub goes_on : Sign → ℕ → ℕ → List ℕ → Received
goes_on s total position part = goes_by (stays_of s) (counted_of s) (collected_of s) total position part

unfoldable pub join_of : Sign → ℕ → ℕ → ℕ → List ℕ → Received
join_of s id total position part = join_by (stays_of s) (counted_of s) s.completed (collected_of s) s.run.len id total position part

-- a record whose room holds a body of this length that runs, and one whose room is emptied
abbrev pub running_of : Sign → ℕ → Sign
running_of s len = record { completed = s.completed; slots = s.slots; room = s.room; run = started_of len s.run.settings }

abbrev pub emptied_of : Sign → Sign
emptied_of s = record { completed = s.completed; slots = s.slots; room = replicate 84 0; run = s.run }
