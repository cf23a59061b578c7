-- A started line keeps to its forecast, whatever packets come while it runs.
use Prim.Native.Nat.{ℕ, zero, suc, ◌≤◌, ◌<◌}
use mathlib.Core.List.{List, ◌∷◌}
use mathlib.Core.Bool.{Bool, true, false, not}
use mathlib.Core.Path.{◌≡◌, refl, sym, ap, ◌∙◌}
use native.Mathlib.Omega.{arith}
use lib.Dec.{eqb}
use lib.ListN.{length, replicate}
use borrow.Author.Tests.{eq-eqb, ne_eqb, eqb-true, eqb-false}
use Rattle.basis.specs.Choice.{when, ◌and◌}
use Rattle.basis.proofs.Choices.{when_true}
use Rattle.std.specs.Prelude.{Result, Ok, Option, None}
use Rattle.refusal.specs.declared.Refusal.{Refusal}
use Rattle.perform.specs.declared.price.Performed.{Performed}
use Rattle.room.specs.Room.{room_of}
use Rattle.perform.specs.Settings.{sound_of as settings_sound}
use Rattle.perform.specs.declared.settings.Settings.{Settings}
use Rattle.judge.specs.Verdict.{judge_of}
use Rattle.judge.specs.declared.Ending.TheVariants.{Finite}
use Rattle.std.proofs.Common.{Ok}
use Rattle.machine.specs.Line.{line_of}
use Rattle.machine.specs.Sound.{sound_of as run_sound}
use Rattle.machine.specs.Step.{ready_of, started_of, step_of as run_step, after_run, said_run}
use Rattle.machine.specs.declared.Run.{Run}
use Rattle.machine.specs.declared.Stepped.{Stepped as RunStepped}
use Rattle.machine.proofs.Follows.{started_busy}
use Rattle.machine.proofs.Keeps.{step_ready, step_keeps}
use Rattle.machine.proofs.Sounds.{ready_anywhere}
use Rattle.machine.proofs.Lines.{LineEnds, line_ends}
use Rattle.service.specs.Driver.{Event, after_steps, said_steps, steps_in, Undisturbed}
use Rattle.service.specs.Punctual.{OnTime}
use Rattle.sign.specs.Step.{room_after, runs_of, step_of}
use Rattle.sign.specs.declared.Sign.{Sign}
use Rattle.sign.specs.declared.Stepped.{Stepped}
use Rattle.service.proofs.Driver.{driver_after, driver_said}
use Rattle.service.specs.Good.{Good}
use Rattle.service.proofs.Keeps.{step_good}
use Rattle.sign.proofs.Sounds.{sound_parts}
use Rattle.sign.proofs.Stepping.{sound_steps}

-- a Ready run stays as it is and answers Idle, however many steps it gets
rest_run : (n : ℕ) (room : List ℕ) (r : Run) → run_sound room r ≡ true → r.len ≡ 0 → after_run n room r ≡ r
rest_run zero room r sound none = refl
rest_run (suc n) room r sound none =
    ap (λ (x : RunStepped). after_run n room x.run) (step_ready room r sound none) ∙ rest_run n room r sound none

rest_said_lem : (n : ℕ) (room : List ℕ) (r : Run) → run_sound room r ≡ true → r.len ≡ 0 → said_run n room r ≡ replicate n (Ok None)
rest_said_lem zero room r sound none = refl
rest_said_lem (suc n) room r sound none =
    ap (λ (x : RunStepped). x.answer ∷ said_run n room x.run) (step_ready room r sound none)
    ∙ ap (λ (xs : List (Result (Option Performed) Refusal)). Ok None ∷ xs) (rest_said_lem n room r sound none)

-- the step of a record: the run's, and the room goes with it
module _ (s : Sign) (g : Good s) where
  abbrev went : Run
  went = (run_step s.room s.run).run

  kept : run_sound s.room went ≡ true
  kept = step_keeps s.room s.run (sound_parts s g.sound).run

  -- a room that was emptied is one beside a Ready run
  room_is : (P : List ℕ → Type 0) → P s.room → ((s.run.len ≡ 0 → ⊥) → went.len ≡ 0 → P (replicate 84 0)) → P (room_after s.room s.run.len went.len)
  room_is P same ends = go (eqb s.run.len 0) (eqb went.len 0) refl refl
    where
      go : (t u : Bool) → eqb s.run.len 0 ≡ t → eqb went.len 0 ≡ u → P (when (not t and u) (replicate 84 0) s.room)
      go true u e f = same
      go false true e f = ends (eqb-false s.run.len 0 e) (eqb-true went.len 0 f)
      go false false e f = same

  -- so the steps after it don't ask which
  room_run : (n : ℕ) → after_run n (room_after s.room s.run.len went.len) went ≡ after_run n s.room went
  room_run n =
      room_is (λ room. after_run n room went ≡ after_run n s.room went) refl
      (λ busy none.
      rest_run n (replicate 84 0) went (ready_anywhere (replicate 84 0) s.room went none ∙ kept) none ∙ sym (rest_run n s.room went kept none))

  room_said : (n : ℕ) → said_run n (room_after s.room s.run.len went.len) went ≡ said_run n s.room went
  room_said n =
      room_is (λ room. said_run n room went ≡ said_run n s.room went) refl
      (λ busy none.
      rest_said_lem n (replicate 84 0) went (ready_anywhere (replicate 84 0) s.room went none ∙ kept) none ∙ sym (rest_said_lem n s.room went kept none))

-- the steps of a sound record are its run's
steps_run : (n : ℕ) (s : Sign) → Good s → (after_steps n s).run ≡ after_run n s.room s.run
steps_run zero s g = refl
steps_run (suc n) s g =
    steps_run n (step_of s).sign (step_good s g)
    ∙ ap (λ (r : Stepped). after_run n r.sign.room r.sign.run) (sound_steps s g.sound)
    ∙ room_run s g n

steps_said : (n : ℕ) (s : Sign) → Good s → said_steps n s ≡ said_run n s.room s.run
steps_said zero s g = refl
steps_said (suc n) s g =
    ap (λ (xs : List (Result (Option Performed) Refusal)). (step_of s).answer ∷ xs) (steps_said n (step_of s).sign (step_good s g))
    ∙ ap (λ (r : Stepped). r.answer ∷ said_run n r.sign.room r.sign.run) (sound_steps s g.sound)
    ∙ ap (λ (xs : List (Result (Option Performed) Refusal)). (run_step s.room s.run).answer ∷ xs) (room_said s g n)

-- steps keep a record sound
pub steps_good : (n : ℕ) (s : Sign) → Good s → Good (after_steps n s)
steps_good zero s g = g
steps_good (suc n) s g = steps_good n (step_of s).sign (step_good s g)

-- and leave what a record has beside its room and its run
steps_leave : {A : Type 0} (f : Sign → A) → ((s : Sign) (x : Run) → f (runs_of s x) ≡ f s) → (n : ℕ) (s : Sign) → Good s → f (after_steps n s) ≡ f s
steps_leave f same zero s g = refl
steps_leave f same (suc n) s g =
    steps_leave f same n (step_of s).sign (step_good s g) ∙ ap (λ (r : Stepped). f r.sign) (sound_steps s g.sound) ∙ same s _

pub steps_completed : (n : ℕ) (s : Sign) → Good s → (after_steps n s).completed ≡ s.completed
steps_completed = steps_leave (λ s. s.completed) (λ s x. refl)

pub steps_slots : (n : ℕ) (s : Sign) → Good s → (after_steps n s).slots ≡ s.slots
steps_slots = steps_leave (λ s. s.slots) (λ s x. refl)

after_next : (n : ℕ) (s : Sign) → after_steps (suc n) s ≡ (step_of (after_steps n s)).sign
after_next zero s = refl
after_next (suc n) s = after_next n (step_of s).sign

-- a step leaves the room of a run that goes on, and empties that of one which ends
step_holds : (s : Sign) → Good s → ((step_of s).sign.run.len ≡ 0 → ⊥) → (step_of s).sign.room ≡ s.room
step_holds s g on =
    ap (λ (r : Stepped). r.sign.room) (sound_steps s g.sound)
    ∙ room_is s g (λ room. room ≡ s.room) refl (λ busy none. absurd (on (ap (λ (r : Stepped). r.sign.run.len) (sound_steps s g.sound) ∙ none)))

step_empty : (s : Sign) → Good s → (s.run.len ≡ 0 → ⊥) → (step_of s).sign.run.len ≡ 0 → (step_of s).sign.room ≡ replicate 84 0
step_empty s g busy none =
    ap (λ (r : Stepped). r.sign.room) (sound_steps s g.sound)
    ∙ ap (λ (t : Bool). when (not t and eqb (went s g).len 0) (replicate 84 0) s.room) (ne_eqb s.run.len 0 busy)
    ∙ when_true (eqb (went s g).len 0) (replicate 84 0) s.room
    (eq-eqb (went s g).len 0 (sym (ap (λ (r : Stepped). r.sign.run.len) (sound_steps s g.sound)) ∙ none))

-- while a line is Busy its body stays in the room
pub steps_hold : (n : ℕ) (s : Sign) → Good s → ((k : ℕ) → k ≤ n → (after_steps k s).run.len ≡ 0 → ⊥) → (after_steps n s).room ≡ s.room
steps_hold zero s g busy = refl
steps_hold (suc n) s g busy =
    ap (λ (t : Sign). t.room) (after_next n s)
    ∙ step_holds (after_steps n s) (steps_good n s g) (λ z. busy (suc n) (omega arith) (ap (λ (t : Sign). t.run.len) (after_next n s) ∙ z))
    ∙ steps_hold n s g (λ k h. busy k (omega arith))

-- and its last step empties the room
steps_empty : (n : ℕ) (s : Sign) → Good s → 0 < n → ((k : ℕ) → k < n → (after_steps k s).run.len ≡ 0 → ⊥) → (after_steps n s).run.len ≡ 0
    → (after_steps n s).room ≡ replicate 84 0
steps_empty zero s g some busy none = absurd (omega arith)
steps_empty (suc n) s g some busy none =
    ap (λ (t : Sign). t.room) (after_next n s)
    ∙ step_empty (after_steps n s) (steps_good n s g) (busy n (omega arith)) (sym (ap (λ (t : Sign). t.run.len) (after_next n s)) ∙ none)

-- a line that was started
module _ (s : Sign) (b : List ℕ) (σ : Settings) (g : Good s) (w : s.room ≡ room_of b) (e : s.run ≡ started_of (length b) σ) where
  -- its steps are those of the run that starts with its body
  pub started_run : (k : ℕ) → (after_steps k s).run ≡ after_run k (room_of b) (started_of (length b) σ)
  started_run k = steps_run k s g ∙ ap (λ (room : List ℕ). after_run k room s.run) w ∙ ap (after_run k (room_of b)) e

  -- and so are its answers
  pub started_said : (k : ℕ) → said_steps k s ≡ said_run k (room_of b) (started_of (length b) σ)
  started_said k = steps_said k s g ∙ ap (λ (room : List ℕ). said_run k room s.run) w ∙ ap (said_run k (room_of b)) e

  -- it is Busy before the last of its steps
  pub busy_steps : settings_sound σ ≡ true → judge_of b ≡ Ok Finite → (k : ℕ) → k < length (line_of b σ) → (after_steps k s).run.len ≡ 0 → ⊥
  busy_steps set fin k before z = (line_ends b fin σ set).busy_before k before (sym (ap (λ (r : Run). r.len) (started_run k)) ∙ z)

-- a program that ends has a step at least
pub line_some : (b : List ℕ) (σ : Settings) → settings_sound σ ≡ true → judge_of b ≡ Ok Finite → 0 < length (line_of b σ)
unfolding ready_of
line_some b σ set fin = go (length (line_of b σ)) refl
  where
    go : (k : ℕ) → length (line_of b σ) ≡ k → 0 < length (line_of b σ)
    go zero q =
        absurd
        (started_busy b false fin σ set
        (ap (λ (k : ℕ). (after_run k (room_of b) (started_of (length b) σ)).len) (sym q) ∙ ap (λ (r : Run). r.len) (line_ends b fin σ set).ready_then))
    go (suc k) q = omega arith

pub on_time : (mid : ℕ) (es : List Event) (s : Sign) (b : List ℕ) (σ : Settings) → Good s → s.room ≡ room_of b → s.run ≡ started_of (length b) σ
    → settings_sound σ ≡ true
    → judge_of b ≡ Ok Finite
    → Undisturbed mid es s
    → OnTime mid es s b σ
unfolding ready_of
on_time mid es s b σ g w e set fin u =
    record {
      busy = λ before z. busy n before (sym (ap (λ (t : Sign). t.run.len) (driver_after mid es s u)) ∙ z);
      holds = λ before.
          ap (λ (t : Sign). t.room) (driver_after mid es s u) ∙ steps_hold n s g (λ k h. busy k (omega arith)) ∙ w;
      ready = λ all. ap (λ (t : Sign). t.run.len) (driver_after mid es s u) ∙ ap (λ (k : ℕ). (after_steps k s).run.len) all ∙ none;
      empty = λ all.
          ap (λ (t : Sign). t.room) (driver_after mid es s u) ∙ ap (λ (k : ℕ). (after_steps k s).room) all ∙ steps_empty m s g some busy none;
      said = λ all. driver_said mid es s u ∙ ap (λ (k : ℕ). said_steps k s) all ∙ started_said s b σ g w e m ∙ l.performed;
      leaves = λ all.
          ap (λ (t : Sign). t.run.settings) (driver_after mid es s u)
          ∙ ap (λ (k : ℕ). (after_steps k s).run.settings) all
          ∙ ap (λ (r : Run). r.settings) (started_run s b σ g w e m ∙ l.ready_then);
    }
  where
    l : LineEnds b σ
    l = line_ends b fin σ set

    n : ℕ
    n = steps_in es

    m : ℕ
    m = length (line_of b σ)

    busy : (k : ℕ) → k < m → (after_steps k s).run.len ≡ 0 → ⊥
    busy = busy_steps s b σ g w e set fin

    none : (after_steps m s).run.len ≡ 0
    none = ap (λ (r : Run). r.len) (started_run s b σ g w e m ∙ l.ready_then)

    some : 0 < m
    some = line_some b σ set fin
