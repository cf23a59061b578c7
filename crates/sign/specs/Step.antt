-- One step of the record: 16 for an unsound one, which stays (N16); otherwise the run goes on by a step (S1, S12) and
-- all else stays, but that the room is emptied where the body has run to its end (S11, R5).
use Rattle.std.specs.Prelude.{ℕ, List, not, eqb, replicate, Err}
use Rattle.basis.specs.Choice.{when, ◌and◌}
use Rattle.refusal.specs.declared.Refusal.TheVariants.{Unsound}
use Rattle.machine.specs.Step.{step_of as run_step}
use Rattle.machine.specs.declared.Run.{Run}
use Rattle.machine.specs.declared.Stepped.{Stepped as RunStepped}
use Rattle.sign.specs.Sound.{sound_of}
use Rattle.sign.specs.declared.Sign.{Sign}
use Rattle.sign.specs.declared.Stepped.{Stepped}

-- the room after a step, by the running body's length before and after it: zeros where Busy became Ready
abbrev pub room_after : List ℕ → (before after : ℕ) → List ℕ
room_after room before after = when (not (eqb before 0) and eqb after 0) (replicate 84 0) room

-- the record with the run after a step
abbrev pub runs_of : Sign → Run → Sign
runs_of s run = record { completed = s.completed; slots = s.slots; room = room_after s.room s.run.len run.len; run = run }

abbrev pub stepped_of : Sign → RunStepped → Stepped
stepped_of s went = record { sign = runs_of s went.run; answer = went.answer }

unfoldable pub step_of : Sign → Stepped
step_of s = when (sound_of s) (stepped_of s (run_step s.room s.run)) (record { sign = s; answer = Err Unsound })
