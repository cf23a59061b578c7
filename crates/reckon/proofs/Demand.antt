-- Demand 3, word for word: a program without an endless ending, started with a sign in range and stepped, is Ready after exactly
-- the steps of its forecast and not sooner; the scans and milliseconds of those steps add up to it, and the pace and the scans that it leaves
-- are told. An endless one is forecast so.
use Prim.Native.Nat.{ℕ}
use mathlib.Core.List.{List}
use mathlib.Core.Bool.{true}
use mathlib.Core.Path.{◌≡◌, refl, sym, ap, ◌∙◌}
use native.Mathlib.Omega.{arith}
use lib.ListN.{length}
use Rattle.units.specs.Units.{capped}
use Rattle.units.proofs.Below.{uncapped}
use Rattle.perform.specs.Settings.{sound_of as settings_sound}
use Rattle.perform.specs.declared.settings.Settings.{Settings}
use Rattle.perform.specs.declared.price.Performed.{Performed}
use Rattle.judge.specs.Verdict.{judge_of}
use Rattle.judge.specs.declared.Ending.TheVariants.{Finite, Endless}
use Rattle.std.proofs.Common.{Ok}
use Rattle.course.specs.Tree.{exit_of, unrolled, tree_in}
use Rattle.course.specs.Price.{sum_by, ones, scans, millis, price_of}
use Rattle.course.proofs.Agrees.{Cares, price_agree, ones_care, scans_care, millis_care}
use Rattle.machine.specs.Line.{line_of}
use Rattle.course.proofs.Theorem.{finite_ends}
use Rattle.reckon.specs.Forecast.{settings_at, prices_of, by_verdict, forecast_of}
use Rattle.totals.specs.Totals.{totals_of}
use Rattle.totals.specs.declared.Totals.{Totals}
use Rattle.reckon.specs.declared.reckon.Foretold.TheVariants.{Ends, Endless as Never}
use Rattle.reckon.proofs.Forecasts.{in_range, settings_sound_lem, tallies_price, exit_settled}
use Rattle.reckon.proofs.Passes.{exit_like}
use Rattle.machine.proofs.Ranges.{ranged}
use Rattle.reckon.proofs.Small.{scans_fit, millis_fit}
use Rattle.totals.proofs.Sums.{totals_are}

module _ (b : List ℕ) (σ : Settings) (set : settings_sound σ ≡ true) where
  -- the forecast at the pace and scans that the sign is set to, by what its line performs and the settings that it leaves
  pub forecast_holds : judge_of b ≡ Ok Finite
      → forecast_of b σ.pace σ.scans
      ≡ Ok (Ends (totals_of (length (line_of b σ)) (sum_by scans (line_of b σ)) (sum_by millis (line_of b σ))) (exit_of (tree_in b).block σ).pace
      (exit_of (tree_in b).block σ).scans)
  forecast_holds e =
      let r = ranged σ set in
      let τ = settings_at σ.pace σ.scans in
      let sound = settings_sound_lem σ.pace σ.scans r.pace_least r.pace_most r.scans_least r.scans_most in
      let t = (tree_in b).block in
      let x = finite_ends b e σ in
      let same : (f : Performed → ℕ) → Cares f → price_of f t τ ≡ sum_by f (unrolled t σ) =
      λ f c. price_agree f c t τ σ (refl, refl) ∙ sym (x.adds_up f) in
      let steps : capped (price_of ones t τ) ≡ length (unrolled t σ) =
      ap capped (price_agree ones ones_care t τ σ (refl, refl) ∙ sym x.counts) ∙ uncapped (length (unrolled t σ)) (omega (arith, x.most)) in
      let whole = totals_of (length (unrolled t σ)) (sum_by scans (unrolled t σ)) (sum_by millis (unrolled t σ)) in
      let sums : prices_of t τ ≡ whole =
      totals_are _ _ _ _ _ _ steps (uncapped (price_of scans t τ) (scans_fit b e τ sound) ∙ same scans scans_care)
      (uncapped (price_of millis t τ) (millis_fit b e τ sound) ∙ same millis millis_care) in
      let left = exit_like t τ σ (refl, refl) in
      in_range b σ.pace σ.scans sound (Ok Finite) e
      ∙ ap (by_verdict (Ok Finite) _) (sym (exit_settled b e τ sound))
      ∙ ap (λ (u : Totals). Ok (Ends u (exit_of t τ).pace (exit_of t τ).scans)) (sym (tallies_price b e τ sound) ∙ sums)
      ∙ ap (λ (n : ℕ). Ok (Ends whole n (exit_of t τ).scans)) left.0
      ∙ ap (λ (n : ℕ). Ok (Ends whole (exit_of t σ).pace n)) left.1

  pub forecast_never : judge_of b ≡ Ok Endless → forecast_of b σ.pace σ.scans ≡ Ok Never
  forecast_never e =
      let r = ranged σ set in
      let sound = settings_sound_lem σ.pace σ.scans r.pace_least r.pace_most r.scans_least r.scans_most in
      in_range b σ.pace σ.scans sound (Ok Endless) e
