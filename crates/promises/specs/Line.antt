-- The line: a started program, its steps and whatever bytes come between them, and its forecast. Demand 3, by L28 and
-- L29 for judging, S22 to S26, S32 and N17 for the forecast, S11 for the end.
use Rattle.std.specs.Prelude.{ℕ, suc, ◌^◌, ◌≤◌, ◌<◌, true, false, List, [], ◌∷◌, ◌++◌, ◌≡◌, length, take, Ok, Some}
use Rattle.basis.specs.Told.{Told, no_at}
use Rattle.perform.specs.Settings.{sound_of}
use Rattle.perform.specs.declared.settings.Settings.{Settings}
use Rattle.perform.specs.declared.price.Performed.{Performed}
use Rattle.judge.specs.Verdict.{judge_of, told_of as verdict_told}
use Rattle.judge.specs.declared.Ending.TheVariants.{Finite, Endless}
use Rattle.grammar.specs.Grammar.{Described, accepted_as}
use Rattle.grammar.specs.Reach.{Refusal}
use Rattle.course.specs.Price.{sum_by, scans, millis}
use Rattle.course.specs.Tree.{tree_in, exit_of}
use Rattle.reckon.specs.Forecast.{out_of_range, told_of as forecast_told}
use Rattle.reckon.specs.declared.reckon.Foretold.TheVariants.{Ends, Endless as Never}
use Rattle.machine.specs.Line.{line_of, rounds_of}
use Rattle.machine.specs.Step.{started_of, told_of as answer_told}
use Rattle.totals.specs.Totals.{totals_of}
use Rattle.room.specs.Room.{room_of}
use Rattle.service.specs.Driver.{Event, step, bytes, steps_in, Quiet}
use Rattle.service.specs.Good.{Good}
use Rattle.promises.specs.Unit.{Calls}

-- the record after events, and the answers of the steps among them
abbrev pub after : {R : Type 0} → Calls R → ℕ → List Event → R → R
after u mid [] r = r
after u mid (step ∷ es) r = after u mid es (u.step r).next
after u mid (bytes b ∷ es) r = after u mid es (u.receive r mid b).next

abbrev pub said : {R : Type 0} → Calls R → ℕ → List Event → R → List Told
said u mid [] r = []
said u mid (step ∷ es) r = (u.step r).told ∷ said u mid es (u.step r).next
said u mid (bytes b ∷ es) r = said u mid es (u.receive r mid b).next

-- what steps answer that perform these commands
abbrev pub told_of_all : List Performed → List Told
told_of_all [] = []
told_of_all (x ∷ xs) = answer_told (Ok (Some x)) ∷ told_of_all xs

-- one step more
abbrev pub then_step : List Event → List Event
then_step es = es ++ (step ∷ [])

-- a sound record that stands at the first command of a body, with these settings
pub record Started {R : Type 0} (u : Calls R) (r : R) (b : List ℕ) (σ : Settings) : Type 0 where
  pub good : Good (u.holds r)
  pub room : (u.holds r).room ≡ room_of b
  pub run : (u.holds r).run ≡ started_of (length b) σ

-- a program that ends: Busy before the last of its steps, Ready after it, and its answers are its commands performed in order
pub record Runs {R : Type 0} (u : Calls R) (r : R) (b : List ℕ) (σ : Settings) (mid : ℕ) : Type 0 where
  pub busy : (es : List Event) → Quiet mid es → steps_in es < length (line_of b σ) → (u.holds (after u mid es r)).run.len ≡ 0 → ⊥
  pub ready : (es : List Event) → Quiet mid es → suc (steps_in es) ≡ length (line_of b σ) → (u.holds (after u mid (then_step es) r)).run.len ≡ 0
  pub answers : (es : List Event) → Quiet mid es → suc (steps_in es) ≡ length (line_of b σ) → said u mid (then_step es) r ≡ told_of_all (line_of b σ)
  -- the sign is then set to what its commands set it to
  pub leaves : (es : List Event) → Quiet mid es → suc (steps_in es) ≡ length (line_of b σ)
      → (u.holds (after u mid (then_step es) r)).run.settings ≡ exit_of (tree_in b).block σ

-- and one that never does: Busy after any of them, and its answers are the first of what its rounds perform, however many
pub record Goes {R : Type 0} (u : Calls R) (r : R) (b : List ℕ) (σ : Settings) (mid : ℕ) : Type 0 where
  pub never : (es : List Event) → Quiet mid es → (u.holds (after u mid es r)).run.len ≡ 0 → ⊥
  pub answers : (es : List Event) → Quiet mid es → said u mid es r ≡ told_of_all (take (steps_in es) (rounds_of (steps_in es) b σ))

pub record LineRuns {R : Type 0} (u : Calls R) : Type 0 where
  -- judging: a program by the grammar is accepted as what it is, and any other body has its first refusal, with number and place
  pub accepts : (b : List ℕ) (endless : _) → Described b endless → u.judge b ≡ verdict_told (accepted_as endless)
  pub refuses : (b : List ℕ) (n p : ℕ) → Refusal b n p → u.judge b ≡ no_at n p
  -- the forecast: 17 for a pace or scan setting out of range, then what judging refuses; endless; or the sums over the line's own commands, and
  -- the pace and scan setting after them
  pub out_of_range_lem : (b : List ℕ) (pace each : ℕ) → out_of_range pace each ≡ true → u.forecast b pace each ≡ no_at 17 0
  pub no_program : (b : List ℕ) (pace each n p : ℕ) → out_of_range pace each ≡ false → Refusal b n p → u.forecast b pace each ≡ no_at n p
  pub foretold : (b : List ℕ) (σ : Settings) → sound_of σ ≡ true → judge_of b ≡ Ok Finite
      → u.forecast b σ.pace σ.scans
      ≡ forecast_told
      (Ok (Ends (totals_of (length (line_of b σ)) (sum_by scans (line_of b σ)) (sum_by millis (line_of b σ))) (exit_of (tree_in b).block σ).pace
      (exit_of (tree_in b).block σ).scans))
  pub never : (b : List ℕ) (σ : Settings) → sound_of σ ≡ true → judge_of b ≡ Ok Endless → u.forecast b σ.pace σ.scans ≡ forecast_told (Ok Never)
  pub most : (b : List ℕ) (σ : Settings) → sound_of σ ≡ true → judge_of b ≡ Ok Finite → length (line_of b σ) ≤ 3961
  pub fits : (b : List ℕ) (σ : Settings) → sound_of σ ≡ true → judge_of b ≡ Ok Finite
      → (sum_by scans (line_of b σ) < 2 ^ 32) × (sum_by millis (line_of b σ) < 2 ^ 32)
  -- the runs
  pub finite : (r : R) (b : List ℕ) (σ : Settings) → Started u r b σ → judge_of b ≡ Ok Finite → (mid : ℕ) → Runs u r b σ mid
  pub endless : (r : R) (b : List ℕ) (σ : Settings) → Started u r b σ → judge_of b ≡ Ok Endless → (mid : ℕ) → Goes u r b σ mid
