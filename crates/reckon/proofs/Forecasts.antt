-- The forecast adds up: the sums over the steps of a started program until it is Ready are its price by two readings, and it is Ready with
-- the settings behind its block.
use Prim.Native.Nat.{ℕ, zero, suc, ◌+◌, ◌≤◌, ◌<◌}
use mathlib.Core.List.{List, [], ◌∷◌}
use mathlib.Core.Bool.{Bool, true, false, not}
use mathlib.Core.Path.{◌≡◌, refl, sym, ap, ◌∙◌}
use native.Mathlib.Omega.{arith}
use lib.Dec.{eqb}
use lib.ListN.{length}
use borrow.Author.Tests.{eq-eqb, ne_eqb}
use Rattle.basis.specs.Choice.{◌and◌, within}
use Rattle.basis.proofs.Choices.{when_true, when_false}
use Rattle.std.specs.Prelude.{Result, Ok, Option, Some}
use Rattle.refusal.specs.declared.Refusal.{Refusal}
use Rattle.units.specs.Units.{capped}
use Rattle.perform.specs.Settings.{sound_of as settings_sound}
use Rattle.perform.specs.declared.settings.Settings.{Settings}
use Rattle.perform.specs.declared.price.Performed.{Performed}
use Rattle.judge.specs.Verdict.{Verdict, judge_of}
use Rattle.judge.specs.declared.Ending.TheVariants.{Finite}
use Rattle.refusal.specs.Refusal.{fault}
use Rattle.std.proofs.Common.{Ok, Err}
use Rattle.course.specs.Price.{sum_by, ones, scans, millis, price_of}
use Rattle.course.specs.Tree.{exit_of, tree_in}
use Rattle.course.proofs.Theorem.{finite_ends}
use Rattle.machine.specs.Line.{line_of, performed}
use Rattle.room.specs.Room.{room_of}
use Rattle.machine.specs.Step.{ready_of, step_of, after_run, said_run, started_of}
use Rattle.reckon.specs.Forecast.{measured, tally, most_steps, tallies_of, left_by, settled_of, settings_at, out_of_range, by_verdict, forecast_of}
use Rattle.reckon.specs.Forecast.{prices_of}
use Rattle.machine.specs.declared.Run.{Run}
use Rattle.machine.proofs.Follows.{ready_none}
use Rattle.machine.proofs.Lines.{BusyRun, line_ends}
use Rattle.machine.proofs.Ranges.{sounds}
use Rattle.totals.proofs.Sums.{totals_are}

-- a run that performs these commands and is then Ready
tally_is : (f : Performed → ℕ) (fuel : ℕ) (xs : List Performed) (room : List ℕ) (r : Run) → length xs ≤ fuel → said_run (length xs) room r ≡ performed xs
    → ((k : ℕ) → k < length xs → BusyRun (after_run k room r))
    → (after_run (length xs) room r).len ≡ 0
    → tally f fuel room r ≡ sum_by f xs
unfolding tally
tally_is f zero [] room r most said busy done = refl
tally_is f zero (x ∷ xs) room r most said busy done = absurd (omega arith)
tally_is f (suc fuel) [] room r most said busy done = when_true (eqb r.len 0) _ _ (eq-eqb r.len 0 done)
tally_is f (suc fuel) (x ∷ xs) room r most said busy done =
    let now : (step_of room r).answer ≡ Ok (Some x) = cc in
    let rest : said_run (length xs) room (step_of room r).run ≡ performed xs = cc in
    when_false (eqb r.len 0) _ _ (ne_eqb r.len 0 (busy 0 (omega arith)))
    ∙ ap (λ (a : Result (Option Performed) Refusal). measured f a + tally f fuel room (step_of room r).run) now
    ∙ ap (λ (n : ℕ). f x + n) (tally_is f fuel xs room (step_of room r).run (omega arith) rest (λ k h. busy (suc k) (omega arith)) done)

-- each sum until Ready is the price
pub tally_price : (b : List ℕ) → judge_of b ≡ Ok Finite → (σ : Settings) → settings_sound σ ≡ true → (f : Performed → ℕ)
    → tally f most_steps (room_of b) (started_of (length b) σ) ≡ price_of f (tree_in b).block σ
tally_price b e σ set f =
    let l = line_ends b e σ set in
    let xs = line_of b σ in
    tally_is f most_steps xs (room_of b) (started_of (length b) σ) l.most l.performed l.busy_before (ap (λ (r : Run). r.len) l.ready_then ∙ ready_none _)
    ∙ (finite_ends b e σ).adds_up f

pub tallies_price : (b : List ℕ) → judge_of b ≡ Ok Finite → (σ : Settings) → settings_sound σ ≡ true
    → prices_of (tree_in b).block σ ≡ tallies_of (room_of b) (started_of (length b) σ)
unfolding tallies_of
tallies_price b e σ set =
    totals_are _ _ _ _ _ _ (ap capped (sym (tally_price b e σ set ones))) (ap capped (sym (tally_price b e σ set scans)))
    (ap capped (sym (tally_price b e σ set millis)))

-- a run that is Ready after so many steps, and not sooner
left_is : (fuel n : ℕ) (room : List ℕ) (r : Run) → n ≤ fuel → ((k : ℕ) → k < n → BusyRun (after_run k room r)) → (after_run n room r).len ≡ 0
    → left_by fuel room r ≡ (after_run n room r).settings
unfolding left_by
left_is zero zero room r most busy done = refl
left_is zero (suc n) room r most busy done = absurd (omega arith)
left_is (suc fuel) zero room r most busy done = when_true (eqb r.len 0) _ _ (eq-eqb r.len 0 done)
left_is (suc fuel) (suc n) room r most busy done =
    when_false (eqb r.len 0) _ _ (ne_eqb r.len 0 (busy 0 (omega arith)))
    ∙ left_is fuel n room (step_of room r).run (omega arith) (λ k h. busy (suc k) (omega arith)) done

-- a program that ends is Ready with the settings behind its block
pub exit_settled : (b : List ℕ) → judge_of b ≡ Ok Finite → (σ : Settings) → settings_sound σ ≡ true
    → exit_of (tree_in b).block σ ≡ settled_of (room_of b) (started_of (length b) σ)
unfolding settled_of ready_of
exit_settled b e σ set =
    let l = line_ends b e σ set in
    sym
    (left_is most_steps (length (line_of b σ)) (room_of b) (started_of (length b) σ) l.most l.busy_before (ap (λ (r : Run). r.len) l.ready_then)
    ∙ ap (λ (r : Run). r.settings) l.ready_then)

-- the caller's two settings decide whether all five are sound
settings_test : (pace each : ℕ) → settings_sound (settings_at pace each) ≡ within 1 pace 20 and within 1 each 6
unfolding settings_sound
settings_test pace each = go (within 1 pace 20) (within 1 each 6)
  where
    go : (s t : Bool) → s and t and true ≡ s and t
    go true true = refl
    go true false = refl
    go false t = refl

module _ (b : List ℕ) (pace each : ℕ) where
  -- a pace or scans out of range are refused
  pub out_refused : settings_sound (settings_at pace each) ≡ false → forecast_of b pace each ≡ Err (fault 17 0)
  unfolding forecast_of
  out_refused e =
      when_true (out_of_range pace each) (Err (fault 17 0)) _ (ap not (sym (settings_test pace each) ∙ e))

  -- in range they leave the answer to the body
  pub in_range : settings_sound (settings_at pace each) ≡ true → (v : Verdict) → judge_of b ≡ v
      → forecast_of b pace each
      ≡ by_verdict v (tallies_of (room_of b) (started_of (length b) (settings_at pace each))) (settled_of (room_of b) (started_of (length b) (settings_at pace each)))
  unfolding forecast_of
  in_range set v e =
      let r = started_of (length b) (settings_at pace each) in
      when_false (out_of_range pace each) (Err (fault 17 0)) (by_verdict (judge_of b) (tallies_of (room_of b) r) (settled_of (room_of b) r)) (ap not (sym (settings_test pace each) ∙ set))
      ∙ ap (λ (x : Verdict). by_verdict x (tallies_of (room_of b) r) (settled_of (room_of b) r)) e

pub settings_sound_lem : (pace each : ℕ) → 1 ≤ pace → pace ≤ 20 → 1 ≤ each → each ≤ 6 → settings_sound (settings_at pace each) ≡ true
settings_sound_lem pace each h1 h2 h3 h4 = sounds pace each 0 16 0 h1 h2 h3 h4 (omega arith) (omega arith, omega arith) refl
