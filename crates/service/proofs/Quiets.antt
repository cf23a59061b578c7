-- A line that was started and that no reset for this MID comes to: it keeps to its forecast up to its last step, and that one too; an
-- endless one goes on. Its record stays sound and keeps its completed IDs.
use Prim.Native.Nat.{ℕ, suc, ◌≤◌, ◌<◌}
use mathlib.Core.List.{List, [], ◌∷◌, ◌++◌}
use mathlib.Core.Bool.{true}
use mathlib.Core.Path.{◌≡◌, refl, sym, ap, ◌∙◌, subst}
use native.Mathlib.Omega.{arith}
use lib.ListN.{length}
use Rattle.room.specs.Room.{room_of}
use Rattle.perform.specs.Settings.{sound_of as settings_sound}
use Rattle.perform.specs.declared.settings.Settings.{Settings}
use Rattle.judge.specs.Verdict.{judge_of}
use Rattle.judge.specs.declared.Ending.TheVariants.{Finite, Endless}
use Rattle.std.proofs.Common.{Ok}
use Rattle.machine.specs.Line.{line_of}
use Rattle.machine.specs.Step.{started_of}
use Rattle.machine.specs.declared.Run.{Run}
use Rattle.machine.proofs.Lines.{line_never, line_goes}
use Rattle.sign.specs.Step.{step_of}
use Rattle.sign.specs.declared.Sign.{Sign}
use Rattle.service.specs.Driver.{Event, step, bytes, after_events, after_steps, steps_in, Undisturbed, Quiet}
use Rattle.service.specs.Good.{Good}
use Rattle.service.specs.Punctual.{OnTime, Unending}
use Rattle.service.proofs.Driver.{driver_after, driver_said}
use Rattle.service.proofs.Punctual.{steps_good, steps_completed, steps_hold, started_run, started_said, busy_steps, on_time}

-- where no bytes are a reset and the sign is Busy at each step, the line is undisturbed
pub quiet_undisturbed : (mid : ℕ) (es : List Event) (s : Sign) → Quiet mid es
    → ((k : ℕ) → k ≤ steps_in es → (after_steps k s).run.len ≡ 0 → ⊥)
    → Undisturbed mid es s
quiet_undisturbed mid [] s quiet busy = tt
quiet_undisturbed mid (step ∷ es) s quiet busy = quiet_undisturbed mid es (step_of s).sign quiet (λ k h. busy (suc k) (omega arith))
quiet_undisturbed mid (bytes b ∷ es) s quiet busy = (busy 0 (omega arith), (quiet.0, quiet_undisturbed mid es s quiet.1 busy))

-- one more step disturbs nothing
pub then_step_lem : (mid : ℕ) (es : List Event) (s : Sign) → Undisturbed mid es s → Undisturbed mid (es ++ (step ∷ [])) s
then_step_lem mid [] s u = tt
then_step_lem mid (step ∷ es) s u = then_step_lem mid es (step_of s).sign u
then_step_lem mid (bytes b ∷ es) s u = (u.0, (u.1.0, then_step_lem mid es s u.1.1))

-- and is no reset
pub then_quiet : (mid : ℕ) (es : List Event) → Quiet mid es → Quiet mid (es ++ (step ∷ []))
then_quiet mid [] quiet = tt
then_quiet mid (step ∷ es) quiet = then_quiet mid es quiet
then_quiet mid (bytes b ∷ es) quiet = (quiet.0, then_quiet mid es quiet.1)

-- it is one step more
pub steps_then : (es : List Event) → steps_in (es ++ (step ∷ [])) ≡ suc (steps_in es)
steps_then [] = refl
steps_then (step ∷ es) = ap suc (steps_then es)
steps_then (bytes b ∷ es) = steps_then es

-- the record of an undisturbed line stays sound and keeps its completed IDs
pub undisturbed_keeps : (mid : ℕ) (es : List Event) (s : Sign) → Good s → Undisturbed mid es s
    → Good (after_events mid es s) × ((after_events mid es s).completed ≡ s.completed)
undisturbed_keeps mid es s good u =
    let after : after_events mid es s ≡ after_steps (steps_in es) s = driver_after mid es s u in (
      subst Good (sym after) (steps_good (steps_in es) s good),
      ap (λ (t : Sign). t.completed) after ∙ steps_completed (steps_in es) s good,
    )

-- a line that ends, short of its last step
module _ (mid : ℕ) (es : List Event) (s : Sign) (b : List ℕ) (σ : Settings) (good : Good s) (holds : s.room ≡ room_of b)
    (runs : s.run ≡ started_of (length b) σ)
    (set : settings_sound σ ≡ true)
    (finite : judge_of b ≡ Ok Finite)
    (quiet : Quiet mid es)
    (before : steps_in es < length (line_of b σ)) where
  undisturbed : Undisturbed mid es s
  undisturbed = quiet_undisturbed mid es s quiet (λ k h. busy_steps s b σ good holds runs set finite k (omega (arith, h, before)))

  -- it keeps to its forecast
  pub quiet_line : OnTime mid es s b σ
  quiet_line = on_time mid es s b σ good holds runs set finite undisturbed

  -- and so it does with one step more, which may be its last
  pub quiet_line_then : OnTime mid (es ++ (step ∷ [])) s b σ
  quiet_line_then = on_time mid (es ++ (step ∷ [])) s b σ good holds runs set finite (then_step_lem mid es s undisturbed)

  -- its record stays sound and keeps its completed IDs
  pub quiet_keeps : Good (after_events mid es s) × ((after_events mid es s).completed ≡ s.completed)
  quiet_keeps = undisturbed_keeps mid es s good undisturbed

  -- and so it does with one step more
  pub quiet_keeps_then : Good (after_events mid (es ++ (step ∷ [])) s) × ((after_events mid (es ++ (step ∷ [])) s).completed ≡ s.completed)
  quiet_keeps_then = undisturbed_keeps mid (es ++ (step ∷ [])) s good (then_step_lem mid es s undisturbed)

-- an endless line, after any steps
module _ (mid : ℕ) (es : List Event) (s : Sign) (b : List ℕ) (σ : Settings) (good : Good s) (holds : s.room ≡ room_of b)
    (runs : s.run ≡ started_of (length b) σ)
    (set : settings_sound σ ≡ true)
    (endless : judge_of b ≡ Ok Endless)
    (quiet : Quiet mid es) where
  -- it is Busy after each
  never : (k : ℕ) → (after_steps k s).run.len ≡ 0 → ⊥
  never k z = line_never b endless σ set k (sym (ap (λ (r : Run). r.len) (started_run s b σ good holds runs k)) ∙ z)

  unhindered : Undisturbed mid es s
  unhindered = quiet_undisturbed mid es s quiet (λ k h. never k)

  -- it goes on, with the answers of its rounds
  pub quiet_endless : Unending mid es s b σ
  quiet_endless =
      let n = steps_in es in
      let after : after_events mid es s ≡ after_steps n s = driver_after mid es s unhindered in
      record {
        busy = λ z. never n (sym (ap (λ (t : Sign). t.run.len) after) ∙ z);
        holds = ap (λ (t : Sign). t.room) after ∙ steps_hold n s good (λ k h. never k) ∙ holds;
        said = driver_said mid es s unhindered ∙ started_said s b σ good holds runs n ∙ line_goes b endless σ set n;
      }

  -- its record stays sound and keeps its completed IDs
  pub endless_keeps : Good (after_events mid es s) × ((after_events mid es s).completed ≡ s.completed)
  endless_keeps = undisturbed_keeps mid es s good unhindered
