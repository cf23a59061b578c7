-- Bytes off the line, in the order of J3: 16, the reader's 19 and 1 to 11, query (J13), reset (J14), then a normal packet.
use Rattle.std.specs.Prelude.{ℕ, List, Result, Ok, Err}
use Rattle.basis.specs.Choice.{when}
use Rattle.refusal.specs.declared.Refusal.TheVariants.{Unsound}
use Rattle.refusal.specs.declared.Refusal.{Refusal}
use Rattle.reader.specs.Read.{read_of}
use Rattle.reader.specs.declared.read.Packet.{Packet}
use Rattle.machine.specs.Step.{ready_of}
use Rattle.hear.specs.Hear.{read_by}
use Rattle.sign.specs.Sound.{sound_of}
use Rattle.sign.specs.Reset.{start_settings, reset_of}
use Rattle.sign.specs.Join.{stays_of, starts_of, running_of, emptied_of, join_of}
use Rattle.sign.specs.declared.Sign.{Sign}
use Rattle.sign.specs.declared.Received.{Received}
use Rattle.hear.specs.declared.Outcome.{Outcome}
use Rattle.hear.specs.declared.Outcome.TheVariants.{Query, Reset, Repeat, Stored, Released}

-- what was read decides
abbrev pub heard_of : Sign → List ℕ → Result Packet Refusal → Received
heard_of s b read = read_by (stays_of s) (stays_of (reset_of s) (Ok Reset)) (join_of s) b read

unfoldable pub receive_of : Sign → ℕ → List ℕ → Received
receive_of s mid b = when (sound_of s) (heard_of s b (read_of mid b)) (stays_of s (Err Unsound))

-- the record after an outcome, where hearing left all but the run as it stands here
abbrev pub behind_of : Result Outcome Refusal → Sign → Received
behind_of (Ok Query) s = stays_of s (Ok Query)
behind_of (Ok Reset) s =
    stays_of (record { completed = s.completed; slots = s.slots; room = s.room; run = ready_of (start_settings s.run.settings.dim s.run.settings.bright) }) (Ok Reset)
behind_of (Ok Repeat) s = stays_of s (Ok Repeat)
behind_of (Ok Stored) s = stays_of s (Ok Stored)
behind_of (Ok (Released v len)) s = record { sign = starts_of v (running_of s len) (emptied_of s); outcome = Ok (Released v len); body = s.room }
behind_of (Err e) s = stays_of s (Err e)
