-- Ours: from dispatch to Ready, and of an endless program for ever on.
use Prim.Native.Nat.{ℕ, zero, suc, ◌+◌, ◌≤◌, ◌<◌}
use mathlib.Core.Bool.{Bool, true, false}
use mathlib.Core.List.{List, [], ◌∷◌}
use mathlib.Core.Path.{◌≡◌, refl, sym, ap, ◌∙◌, subst}
use native.Mathlib.Omega.{arith}
use lib.ListN.{length, take, replicate}
use Rattle.basis.specs.Told.{Told}
use Rattle.packet.specs.Wire.{total_of}
use Rattle.perform.specs.Settings.{sound_of as settings_sound}
use Rattle.perform.specs.declared.settings.Settings.{Settings}
use Rattle.perform.specs.declared.price.Performed.{Performed}
use Rattle.judge.specs.Verdict.{judge_of}
use Rattle.judge.specs.declared.Ending.TheVariants.{Finite, Endless}
use Rattle.std.proofs.Common.{Ok}
use Rattle.grammar.specs.Grammar.{accepted_as}
use Rattle.course.specs.Price.{sum_by, scans, millis}
use Rattle.course.specs.Tree.{tree_in, exit_of}
use Rattle.reckon.specs.Forecast.{told_of as forecast_told}
use Rattle.reckon.specs.declared.reckon.Foretold.TheVariants.{Ends, Endless as Never}
use Rattle.totals.specs.Totals.{totals_of}
use Rattle.machine.specs.Line.{line_of, rounds_of}
use Rattle.completed.specs.Completed.{has_of}
use Rattle.completed.specs.declared.Completed.{Completed}
use Rattle.sign.specs.declared.Sign.{Sign}
use Rattle.service.specs.Delivery.{Awaits}
use Rattle.service.specs.Driver.{step, steps_in}
use Rattle.service.specs.Good.{Good}
use Rattle.service.proofs.Punctual.{line_some}
use Rattle.service.proofs.Quiets.{quiet_keeps, quiet_keeps_then, endless_keeps}
use Rattle.promises.specs.Unit.{Next, ours, value_at}
use Rattle.promises.specs.Delivery.{packet_in, behind}
use Rattle.promises.specs.Line.{told_of_all, then_step, after, Started, Runs}
use Rattle.promises.specs.Dispatch.{sum_at, AllYes, Repeated, Arrives, GoesOn, DispatchToReady}
use Rattle.promises.proofs.Tellings.{finite_told, endless_told}
use Rattle.promises.proofs.Delivery.{Written, written, gets, behind_good, behind_has, copy_is}
use Rattle.promises.proofs.Line.{after_is, started_set, runs, goes, ours_runs}
use Rattle.promises.proofs.Record.{ours_steps}

-- the answers of a line: none is a refusal, and their values add up
line_yes : (xs : List Performed) → AllYes (told_of_all xs)
line_yes [] = tt
line_yes (x ∷ xs) = (refl, line_yes xs)

line_scans : (xs : List Performed) → sum_at 5 (told_of_all xs) ≡ sum_by scans xs
line_scans [] = refl
line_scans (x ∷ xs) = ap (λ (n : ℕ). x.scans.0 + n) (line_scans xs)

line_millis : (xs : List Performed) → sum_at 6 (told_of_all xs) ≡ sum_by millis xs
line_millis [] = refl
line_millis (x ∷ xs) = ap (λ (n : ℕ). x.millis.0 + n) (line_millis xs)

-- steps of a Ready sign change nothing
rests : (mid k : ℕ) (s : Sign) → Good s → s.run.len ≡ 0 → after ours mid (replicate k step) s ≡ s
rests mid zero s good ready = refl
rests mid (suc k) s good ready =
    ap (λ (n : Next Sign). after ours mid (replicate k step) n.next) ((ours_steps s good).rests ready) ∙ rests mid k s good ready

module _ (s : Sign) (good : Good s) (mid id : ℕ) (body out : List ℕ) (endless : Bool) (accepted : judge_of body ≡ accepted_as endless)
    (w : Written mid id body out)
    (awaits : Awaits s id) where
  abbrev found : List ℕ
  found = (ours.transmit mid id body out).buffer

  abbrev t : Sign
  t = behind ours s mid found (total_of body)

  abbrev σ : Settings
  σ = s.run.settings

  abbrev foretold : Told
  foretold = ours.forecast body σ.pace σ.scans

  -- the delivery leaves the program at its first command
  started : Started ours t body σ
  started =
      let g = gets s good mid id body out w awaits in
      record { good = behind_good s good mid id body out w awaits; room = g.holds endless accepted; run = g.runs endless accepted }

  set : settings_sound σ ≡ true
  set = started_set t body σ started

  -- a record that still has the same completed numbers takes a copy for a Repeat
  copied : (x : Sign) → Good x → x.completed ≡ t.completed → (p : ℕ) → p < total_of body → Repeated ours x mid (packet_in found p)
  copied x g e p below = copy_is mid id body out w x g (ap (λ (d : Completed). has_of d id) e ∙ behind_has s good mid id body out w awaits) p below

module _ (s : Sign) (good : Good s) (mid id : ℕ) (body out : List ℕ) (e : judge_of body ≡ Ok Finite) (w : Written mid id body out) (awaits : Awaits s id) where
  abbrev line : List Performed
  line = line_of body s.run.settings

  abbrev left : Settings
  left = exit_of (tree_in body).block s.run.settings

  -- the sign after the delivery, and its start
  abbrev it : Sign
  it = t s good mid id body out false e w awaits

  begun : Started ours it body s.run.settings
  begun = started s good mid id body out false e w awaits

  legal : settings_sound s.run.settings ≡ true
  legal = set s good mid id body out false e w awaits

  told : ours.forecast body s.run.settings.pace s.run.settings.scans
      ≡ forecast_told (Ok (Ends (totals_of (length line) (sum_by scans line) (sum_by millis line)) left.pace left.scans))
  told = ours_runs.foretold body s.run.settings legal e

  steps : value_at 1 (ours.forecast body s.run.settings.pace s.run.settings.scans) ≡ length line
  steps = ap (value_at 1) told

  on : Runs ours it body s.run.settings mid
  on = runs it body s.run.settings begun mid e

  pub arrives : Arrives ours it mid body (ours.transmit mid id body out).buffer (ours.forecast body s.run.settings.pace s.run.settings.scans)
  arrives =
      record {
        known = ap (λ (x : Told). x.number) told;
        ends = ap (value_at 0) told;
        some = subst (λ (n : ℕ). 1 ≤ n) (sym steps) (line_some body s.run.settings legal e);
        most = subst (λ (n : ℕ). n ≤ 3961) (sym steps) (ours_runs.most body s.run.settings legal e);
        busy = λ es quiet before. on.busy es quiet (omega (arith, steps));
        ready = λ es quiet all. on.ready es quiet (all ∙ steps);
        unrefused = λ es quiet all. subst AllYes (sym (on.answers es quiet (all ∙ steps))) (line_yes line);
        scans = λ es quiet all. ap (sum_at 5) (on.answers es quiet (all ∙ steps)) ∙ line_scans line ∙ sym (ap (value_at 2) told);
        millis = λ es quiet all. ap (sum_at 6) (on.answers es quiet (all ∙ steps)) ∙ line_millis line ∙ sym (ap (value_at 3) told);
        pace_left = λ es quiet all. ap (λ (x : Settings). x.pace) (on.leaves es quiet (all ∙ steps)) ∙ sym (ap (value_at 4) told);
        scans_left = λ es quiet all. ap (λ (x : Settings). x.scans) (on.leaves es quiet (all ∙ steps)) ∙ sym (ap (value_at 5) told);
        copies = λ es quiet before p below.
            let k = quiet_keeps mid es it body s.run.settings begun.good begun.room begun.run legal e quiet (omega (arith, steps)) in
            copied s good mid id body out false e w awaits (after ours mid es it) (subst Good (sym (after_is mid es it)) k.0)
            (ap (λ (x : Sign). x.completed) (after_is mid es it) ∙ k.1)
            p
            below;
        copies_then = λ es quiet all k p below.
            let h = quiet_keeps_then mid es it body s.run.settings begun.good begun.room begun.run legal e quiet (omega (arith, steps)) in
            let x = after ours mid (then_step es) it in
            let g : Good x = subst Good (sym (after_is mid (then_step es) it)) h.0 in
            let completed : x.completed ≡ it.completed = ap (λ (y : Sign). y.completed) (after_is mid (then_step es) it) ∙ h.1 in
            subst (λ (y : Sign). Repeated ours y mid (packet_in (ours.transmit mid id body out).buffer p))
            (sym (rests mid k x g (on.ready es quiet (all ∙ steps))))
            (copied s good mid id body out false e w awaits x g completed p below);
      }

module _ (s : Sign) (good : Good s) (mid id : ℕ) (body out : List ℕ) (e : judge_of body ≡ Ok Endless) (w : Written mid id body out) (awaits : Awaits s id) where
  abbrev at : Sign
  at = t s good mid id body out true e w awaits

  begins : Started ours at body s.run.settings
  begins = started s good mid id body out true e w awaits

  sound : settings_sound s.run.settings ≡ true
  sound = set s good mid id body out true e w awaits

  never : ours.forecast body s.run.settings.pace s.run.settings.scans ≡ forecast_told (Ok Never)
  never = ours_runs.never body s.run.settings sound e

  pub goes_on_lem : GoesOn ours at mid body (ours.transmit mid id body out).buffer (ours.forecast body s.run.settings.pace s.run.settings.scans)
  goes_on_lem =
      let on = goes at body s.run.settings begins mid e in
      record {
        known = ap (λ (x : Told). x.number) never;
        endless = ap (value_at 0) never;
        busy = on.never;
        unrefused = λ es quiet. subst AllYes (sym (on.answers es quiet)) (line_yes (take (steps_in es) (rounds_of (steps_in es) body s.run.settings)));
        copies = λ es quiet p below.
            let k = endless_keeps mid es at body s.run.settings begins.good begins.room begins.run sound e quiet in
            copied s good mid id body out true e w awaits (after ours mid es at) (subst Good (sym (after_is mid es at)) k.0)
            (ap (λ (x : Sign). x.completed) (after_is mid es at) ∙ k.1)
            p
            below;
      }

pub ours_dispatches : DispatchToReady ours
ours_dispatches =
    record {
      finite = λ s good mid id body out e sent awaits.
          arrives s good mid id body out (finite_told (judge_of body) e) (written mid id body out sent) awaits;
      endless = λ s good mid id body out e sent awaits.
          goes_on_lem s good mid id body out (endless_told (judge_of body) e) (written mid id body out sent) awaits;
    }
