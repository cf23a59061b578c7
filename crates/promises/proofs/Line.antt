-- Ours keeps the promise of the line.
use Prim.Native.Nat.{ℕ, ◌^◌, ◌<◌}
use mathlib.Core.Bool.{true, false}
use mathlib.Core.List.{List, [], ◌∷◌}
use mathlib.Core.Path.{◌≡◌, refl, sym, ap, ◌∙◌, subst}
use native.Mathlib.Omega.{arith}
use lib.ListN.{length, take}
use Rattle.basis.specs.Told.{Told, no_at}
use Rattle.basis.proofs.Choices.{when_true, when_false}
use Rattle.std.specs.Prelude.{Result, Ok, Option, Some}
use Rattle.refusal.specs.declared.Refusal.{Refusal}
use Rattle.perform.specs.Settings.{sound_of}
use Rattle.perform.specs.declared.settings.Settings.{Settings}
use Rattle.perform.specs.declared.price.Performed.{Performed}
use Rattle.judge.specs.Verdict.{Verdict, judge_of, told_of as verdict_told}
use Rattle.judge.specs.declared.Ending.TheVariants.{Finite, Endless}
use Rattle.refusal.specs.declared.Fault.{Fault}
use Rattle.refusal.specs.Refusal.{fault}
use Rattle.std.proofs.Common.{Ok, Err}
use Rattle.grammar.proofs.Grammars.{described_accepted}
use Rattle.grammar.proofs.Refusals.{first_refused}
use Rattle.room.specs.Room.{room_of}
use Rattle.reckon.specs.Forecast.{tallies_of, settled_of, settings_at, out_of_range, by_verdict, forecast_of, told_of as forecast_told}
use Rattle.course.specs.Price.{scans, millis}
use Rattle.course.proofs.Theorem.{finite_ends}
use Rattle.reckon.proofs.Demand.{forecast_holds, forecast_never}
use Rattle.reckon.proofs.Small.{scans_fit, millis_fit}
use Rattle.machine.specs.Line.{line_of, rounds_of, performed}
use Rattle.machine.specs.Step.{started_of, told_of as answer_told}
use Rattle.machine.specs.declared.Run.{Run}
use Rattle.machine.proofs.Lines.{line_ends}
use Rattle.machine.proofs.Sounds.{sound_parts as run_parts}
use Rattle.sign.specs.Receive.{receive_of}
use Rattle.sign.specs.Step.{step_of}
use Rattle.sign.specs.declared.Sign.{Sign}
use Rattle.sign.proofs.Sounds.{sound_parts}
use Rattle.service.specs.Driver.{Event, step, bytes, after_events, said_events, steps_in}
use Rattle.service.proofs.Quiets.{steps_then, quiet_line, quiet_line_then, quiet_endless}
use Rattle.promises.specs.Unit.{ours}
use Rattle.promises.specs.Line.{after, said, told_of_all, then_step, Started, Runs, Goes, LineRuns}

-- events of ours, and their answers
pub after_is : (mid : ℕ) (es : List Event) (s : Sign) → after ours mid es s ≡ after_events mid es s
after_is mid [] s = refl
after_is mid (step ∷ es) s = after_is mid es (step_of s).sign
after_is mid (bytes b ∷ es) s = after_is mid es (receive_of s mid b).sign

abbrev all_told : List (Result (Option Performed) Refusal) → List Told
all_told [] = []
all_told (x ∷ xs) = answer_told x ∷ all_told xs

pub said_is : (mid : ℕ) (es : List Event) (s : Sign) → said ours mid es s ≡ all_told (said_events mid es s)
said_is mid [] s = refl
said_is mid (step ∷ es) s = ap (λ (xs : List Told). answer_told (step_of s).answer ∷ xs) (said_is mid es (step_of s).sign)
said_is mid (bytes b ∷ es) s = said_is mid es (receive_of s mid b).sign

pub performed_told : (xs : List Performed) → all_told (performed xs) ≡ told_of_all xs
performed_told [] = refl
performed_told (x ∷ xs) = ap (λ (ts : List Told). answer_told (Ok (Some x)) ∷ ts) (performed_told xs)

-- what the forecast refuses
out_of_range_lem : (b : List ℕ) (pace each : ℕ) → out_of_range pace each ≡ true → forecast_of b pace each ≡ Err (fault 17 0)
unfolding forecast_of
out_of_range_lem b pace each h = when_true (out_of_range pace each) (Err (fault 17 0)) _ h

no_program : (b : List ℕ) (pace each : ℕ) (w : Fault) → out_of_range pace each ≡ false → judge_of b ≡ Err w → forecast_of b pace each ≡ Err w
unfolding forecast_of
no_program b pace each w h e =
    when_false (out_of_range pace each) (Err (fault 17 0)) _ h
    ∙ ap
    (λ (v : Verdict).
    by_verdict v (tallies_of (room_of b) (started_of (length b) (settings_at pace each))) (settled_of (room_of b) (started_of (length b) (settings_at pace each))))
    e

-- the settings that a started line has are sound
pub started_set : (s : Sign) (b : List ℕ) (σ : Settings) → Started ours s b σ → sound_of σ ≡ true
unfolding started_of
started_set s b σ a =
    sym (ap (λ (r : Run). sound_of r.settings) a.run) ∙ (run_parts s.room s.run (sound_parts s a.good.sound).run).set

-- a program that ends, and one that does not
module _ (s : Sign) (b : List ℕ) (σ : Settings) (a : Started ours s b σ) (mid : ℕ) where
  pub runs : judge_of b ≡ Ok Finite → Runs ours s b σ mid
  runs e =
      let set = started_set s b σ a in
      record {
        busy = λ es quiet before z.
            (quiet_line mid es s b σ a.good a.room a.run set e quiet before).busy before (sym (ap (λ (t : Sign). t.run.len) (after_is mid es s)) ∙ z);
        ready = λ es quiet all.
            ap (λ (t : Sign). t.run.len) (after_is mid (then_step es) s)
            ∙ (quiet_line_then mid es s b σ a.good a.room a.run set e quiet (omega arith)).ready (steps_then es ∙ all);
        answers = λ es quiet all.
            said_is mid (then_step es) s
            ∙ ap all_told ((quiet_line_then mid es s b σ a.good a.room a.run set e quiet (omega arith)).said (steps_then es ∙ all))
            ∙ performed_told (line_of b σ);
        leaves = λ es quiet all.
            ap (λ (t : Sign). t.run.settings) (after_is mid (then_step es) s)
            ∙ (quiet_line_then mid es s b σ a.good a.room a.run set e quiet (omega arith)).leaves (steps_then es ∙ all);
      }

  pub goes : judge_of b ≡ Ok Endless → Goes ours s b σ mid
  goes e =
      let set = started_set s b σ a in
      record {
        never = λ es quiet z.
            (quiet_endless mid es s b σ a.good a.room a.run set e quiet).busy (sym (ap (λ (t : Sign). t.run.len) (after_is mid es s)) ∙ z);
        answers = λ es quiet.
            said_is mid es s
            ∙ ap all_told (quiet_endless mid es s b σ a.good a.room a.run set e quiet).said
            ∙ performed_told (take (steps_in es) (rounds_of (steps_in es) b σ));
      }

pub ours_runs : LineRuns ours
ours_runs =
    record {
      accepts = λ b endless d. ap verdict_told (described_accepted b endless d);
      refuses = λ b n p r. let x = first_refused b n p r in ap verdict_told x.0 ∙ ap (λ (k : ℕ). no_at k p) x.1;
      out_of_range_lem = λ b pace each h. ap forecast_told (out_of_range_lem b pace each h);
      no_program = λ b pace each n p h r. let x = first_refused b n p r in ap forecast_told (no_program b pace each (fault n p) h x.0) ∙ ap (λ (k : ℕ). no_at k p) x.1;
      foretold = λ b σ set e. ap forecast_told (forecast_holds b σ set e);
      never = λ b σ set e. ap forecast_told (forecast_never b σ set e);
      most = λ b σ set e. (line_ends b e σ set).most;
      fits = λ b σ set e.
          let x = finite_ends b e σ in (
            subst (λ (n : ℕ). n < 2 ^ 32) (sym (x.adds_up scans)) (scans_fit b e σ set),
            subst (λ (n : ℕ). n < 2 ^ 32) (sym (x.adds_up millis)) (millis_fit b e σ set),
          );
      finite = λ s b σ a e mid. runs s b σ a mid e;
      endless = λ s b σ a e mid. goes s b σ a mid e;
    }
