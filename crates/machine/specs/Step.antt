-- One step of a run: the state that its record stands for, the step of that state, and the record of the next state.
-- Rules S1 and S6 to S13, J11 for a body just started, N16 for an unsound run.
use Rattle.std.specs.Prelude.{ℕ, zero, suc, List, [], ◌∷◌, eqb, Result, Ok, Err, Option, Some, None}
use Rattle.basis.specs.Choice.{when}
use Rattle.basis.specs.Told.{Told}
use Rattle.refusal.specs.Refusal.{told_by}
use Rattle.refusal.specs.declared.Refusal.{Refusal}
use Rattle.refusal.specs.declared.Refusal.TheVariants.{Unsound}
use Rattle.program.specs.Answers.{kind_of}
use Rattle.perform.specs.declared.settings.Settings.{Settings}
use Rattle.perform.specs.declared.price.Performed.{Performed}
use Rattle.loops.specs.Token.{get}
use Rattle.course.specs.Steps.{Frame, frame, State, ready, at, Said, did, idle, next_of, said_of}
use Rattle.machine.specs.Sound.{body_of, sound_of}
use Rattle.machine.specs.declared.Loop.{Loop}
use Rattle.machine.specs.declared.Run.{Run}
use Rattle.machine.specs.declared.Stepped.{Stepped}

-- no loop is open
abbrev pub outside : Loop
outside = record { place = 0; left = 0 }

-- the open loops that a record holds: one where a count is left, none otherwise
abbrev pub frames_of : Loop → List Frame
frames_of l = when (eqb l.left 0) [] (frame l.place l.left ∷ [])

-- and how a record holds the innermost of them
abbrev pub loop_of : List Frame → Loop
loop_of [] = outside
loop_of (frame p k ∷ fs) = record { place = p; left = k }

-- the state that a run stands for
abbrev pub state_of : Run → State
state_of r = when (eqb r.len 0) (ready r.settings) (at r.place (frames_of r.inner) r.settings)

-- Ready has no body, and places and count are 0
unfoldable pub ready_of : Settings → Run
ready_of σ = record { len = 0; place = 0; inner = outside; settings = σ }

-- the run of the same body in another state
abbrev pub run_of : Run → State → Run
run_of r (ready σ) = ready_of σ
run_of r (at p fs σ) = record { len = r.len; place = p; inner = loop_of fs; settings = σ }

abbrev pub say_of : Said → Result (Option Performed) Refusal
say_of (did x) = Ok (Some x)
say_of idle = Ok None

-- Idle changes nothing; a Busy run goes on by one command
abbrev pub went_of : List ℕ → Run → Stepped
went_of room r =
    when (eqb r.len 0) (record { run = r; answer = Ok None })
    (record {
      run = run_of r (next_of (get (body_of room r)) r.len (state_of r));
      answer = say_of (said_of (get (body_of room r)) (state_of r));
    })

-- an unsound run stays, and is told 16
abbrev pub unsound_of : Run → Stepped
unsound_of r = record { run = r; answer = Err Unsound }

-- one step of a run whose body stands at the front of a room
unfoldable pub step_of : List ℕ → Run → Stepped
step_of room r = when (sound_of room r) (went_of room r) (unsound_of r)

-- so many steps: the run after them, and their answers
abbrev pub after_run : ℕ → List ℕ → Run → Run
after_run zero room r = r
after_run (suc k) room r = after_run k room (step_of room r).run

abbrev pub said_run : ℕ → List ℕ → Run → List (Result (Option Performed) Refusal)
said_run zero room r = []
said_run (suc k) room r = (step_of room r).answer ∷ said_run k room (step_of room r).run

-- a body just started: at its first command, with these settings
unfoldable pub started_of : ℕ → Settings → Run
started_of len σ = record { len = len; place = 0; inner = outside; settings = σ }

-- the answer in the rules' numbers (S1 to S5): kind, number as written, text place and length, start column, scans,
-- milliseconds; Idle is zeros (S12)
abbrev pub values_of : Performed → List ℕ
values_of x = kind_of x.kind ∷ x.number ∷ x.text ∷ x.len ∷ x.column ∷ x.scans.0 ∷ x.millis.0 ∷ []

abbrev pub said_values : Option Performed → List ℕ
said_values (Some x) = values_of x
said_values None = 0 ∷ 0 ∷ 0 ∷ 0 ∷ 0 ∷ 0 ∷ 0 ∷ []

abbrev pub told_of : Result (Option Performed) Refusal → Told
told_of = told_by said_values
