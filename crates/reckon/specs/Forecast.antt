-- The forecast: the sums over the steps of a run, from its start until it is Ready, and the settings that it then has.
-- Rules S22 to S26 for the sums, S32 for the settings, N17 before what judging refuses.
use Rattle.std.specs.Prelude.{ℕ, zero, suc, ◌+◌, List, [], ◌∷◌, Bool, not, eqb, length, Result, Ok, Err, Option, Some, None}
use Rattle.basis.specs.Choice.{when, ◌and◌, within}
use Rattle.basis.specs.Told.{Told}
use Rattle.refusal.specs.declared.Refusal.{Refusal}
use Rattle.units.specs.Units.{capped}
use Rattle.perform.specs.declared.settings.Settings.{Settings}
use Rattle.perform.specs.declared.price.Performed.{Performed}
use Rattle.loops.specs.Flow.{ended_of, opens_of}
use Rattle.judge.specs.Verdict.{Verdict, end_of, judge_of}
use Rattle.loops.specs.declared.Flow.{Flow}
use Rattle.judge.specs.declared.Ending.TheVariants.{Finite, Endless}
use Rattle.refusal.specs.declared.Fault.{Fault}
use Rattle.course.specs.Price.{ones, scans, millis, price_of}
use Rattle.course.specs.Tree.{Block, exit_of, tree_in}
use Rattle.room.specs.Room.{room_of}
use Rattle.machine.specs.Step.{step_of, started_of}
use Rattle.totals.specs.Totals.{totals_of}
use Rattle.machine.specs.declared.Run.{Run}
use Rattle.reckon.specs.declared.reckon.Foretold.{Foretold}
use Rattle.reckon.specs.declared.reckon.Foretold.TheVariants.{Ends, Endless as Never}
use Rattle.totals.specs.declared.Totals.{Totals}
use Rattle.refusal.specs.Refusal.{fault, told_at}

-- a measure of what a step answered
abbrev pub measured : (Performed → ℕ) → Result (Option Performed) Refusal → ℕ
measured f (Ok (Some x)) = f x
measured f (Ok None) = 0
measured f (Err e) = 0

-- the sum of a measure over the steps of a run until it is Ready, within so many steps, with its body at the front of a room
unfoldable pub tally : (Performed → ℕ) → ℕ → List ℕ → Run → ℕ
tally f zero room r = 0
tally f (suc k) room r = when (eqb r.len 0) 0 (measured f (step_of room r).answer + tally f k room (step_of room r).run)

-- no program that ends takes more steps
abbrev pub most_steps : ℕ
most_steps = 3961

-- the totals of a run until it is Ready, as the units hold them
unfoldable pub tallies_of : List ℕ → Run → Totals
tallies_of room r =
    totals_of (capped (tally ones most_steps room r)) (capped (tally scans most_steps room r)) (capped (tally millis most_steps room r))

-- the settings of a run after its steps until it is Ready, within so many steps
unfoldable pub left_by : ℕ → List ℕ → Run → Settings
left_by zero room r = r.settings
left_by (suc k) room r = when (eqb r.len 0) r.settings (left_by k room (step_of room r).run)

-- the settings that a run leaves when it is Ready
unfoldable pub settled_of : List ℕ → Run → Settings
settled_of room r = left_by most_steps room r

-- the caller's pace and scans; what else a sign is set to costs nothing
abbrev pub settings_at : ℕ → ℕ → Settings
settings_at pace each = record { pace = pace; scans = each; sink = 0; dim = 16; bright = 0 }

abbrev pub out_of_range : ℕ → ℕ → Bool
out_of_range pace each = not (within 1 pace 20 and within 1 each 6)

-- of a program that ends its totals are told, and the pace and the scans of the settings that it leaves
abbrev pub by_verdict : Verdict → Totals → Settings → Result Foretold Fault
by_verdict (Ok Finite) t σ = Ok (Ends t σ.pace σ.scans)
by_verdict (Ok Endless) t σ = Ok Never
by_verdict (Err w) t σ = Err w

unfoldable pub forecast_of : List ℕ → ℕ → ℕ → Result Foretold Fault
forecast_of b pace each =
    when (out_of_range pace each) (Err (fault 17 0))
    (by_verdict (judge_of b) (tallies_of (room_of b) (started_of (length b) (settings_at pace each)))
    (settled_of (room_of b) (started_of (length b) (settings_at pace each))))

-- what a block costs, in the three units
abbrev pub prices_of : Block → Settings → Totals
prices_of t σ = totals_of (capped (price_of ones t σ)) (capped (price_of scans t σ)) (capped (price_of millis t σ))

-- what is told of a body, by two readings of its loops
abbrev pub walked_of : List ℕ → Settings → Result Foretold Fault
walked_of b σ = by_verdict (judge_of b) (prices_of (tree_in b).block σ) (exit_of (tree_in b).block σ)

-- what is foretold where no command is left
abbrev pub foretold_of : Flow → Totals → Settings → Result Foretold Fault
foretold_of f t σ = by_verdict (end_of (ended_of f) (opens_of f)) t σ

-- 1 for an endless program, 0 for one that ends, and then its steps, scans and milliseconds, and the pace and the scans
-- that it leaves
abbrev pub values_of : Foretold → List ℕ
values_of (Ends t pace each) = 0 ∷ t.steps.0 ∷ t.scans.0 ∷ t.millis.0 ∷ pace ∷ each ∷ []
values_of Never = 1 ∷ 0 ∷ 0 ∷ 0 ∷ 0 ∷ 0 ∷ []

-- the forecast in the rules' numbers, or the refusal's number and place
abbrev pub told_of : Result Foretold Fault → Told
told_of = told_at values_of
