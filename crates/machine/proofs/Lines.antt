-- The line runs: demand 3 of runs. A finite program that was started is Ready after exactly as many steps as it has commands
-- unrolled, and not sooner; its answers are those commands; no step is refused. An endless one is never Ready.
use Prim.Native.Nat.{ℕ, zero, suc, ◌≤◌, ◌<◌}
use mathlib.Core.List.{List, [], ◌∷◌, map}
use mathlib.Core.Bool.{Bool, true, false}
use mathlib.Core.Path.{◌≡◌, refl, sym, ap, ◌∙◌, subst}
use native.Mathlib.Omega.{arith}
use lib.ListN.{length, take}
use Rattle.std.specs.Prelude.{Result, Ok, Option, Some}
use Rattle.refusal.specs.declared.Refusal.{Refusal}
use Rattle.perform.specs.Settings.{sound_of as settings_sound}
use Rattle.perform.specs.declared.settings.Settings.{Settings}
use Rattle.perform.specs.declared.price.Performed.{Performed}
use Rattle.loops.specs.Token.{get}
use Rattle.judge.specs.Verdict.{judge_of}
use Rattle.grammar.specs.Grammar.{accepted_as}
use Rattle.judge.specs.declared.Ending.TheVariants.{Finite, Endless}
use Rattle.std.proofs.Common.{Ok}
use Rattle.course.specs.Steps.{State, ready, at, did, Busy, started, after_of, answers_of}
use Rattle.course.specs.Tree.{exit_of, tree_in}
use Rattle.course.proofs.Programs.{program}
use Rattle.course.proofs.Runs.{settle_at}
use Rattle.course.proofs.Rounds.{endless_performs}
use Rattle.course.proofs.Theorem.{finite_ends, endless_never}
use Rattle.machine.specs.Line.{line_of, rounds_of, performed as answers_for}
use Rattle.machine.specs.Sound.{sound_of}
use Rattle.room.specs.Room.{room_of}
use Rattle.machine.specs.Step.{ready_of, run_of, say_of, step_of, after_run, said_run, started_of}
use Rattle.machine.specs.declared.Run.{Run}
use Rattle.machine.proofs.Follows.{follows, follows_said, started_body, started_busy, started_sound}
use Rattle.machine.proofs.Keeps.{Kept, step_keeps}

-- Busy holds a body
abbrev pub BusyRun : Run → Type 0
BusyRun r = r.len ≡ 0 → ⊥

module _ (b : List ℕ) (e : Bool) (accepted : judge_of b ≡ accepted_as e) (σ : Settings) (set : settings_sound σ ≡ true) where
  start_is : 0 < length b → started_of (length b) σ ≡ run_of (started_of (length b) σ) (started (length b) σ)
  unfolding started_of
  start_is some = ap (run_of (started_of (length b) σ)) (sym (settle_at (get b) (length b) 0 [] σ some))

  start_kept : 0 < length b → Kept (room_of b) (started_of (length b) σ) (started (length b) σ)
  unfolding started_of
  start_kept some =
      subst (Kept (room_of b) (started_of (length b) σ)) (sym (settle_at (get b) (length b) 0 [] σ some)) (started_sound b e accepted σ set, refl)

  -- the run after k steps is the record of the state after k steps
  line_follows : 0 < length b → (k : ℕ) → after_run k (room_of b) (started_of (length b) σ) ≡ run_of (started_of (length b) σ) (after_of (get b) (length b) k (started (length b) σ))
  unfolding started_of
  line_follows some k =
      ap (after_run k (room_of b)) (start_is some)
      ∙ follows (room_of b) (started_of (length b) σ) (started_busy b e accepted σ set) k (started (length b) σ) (start_kept some)
      ∙ ap (λ (x : List ℕ). run_of (started_of (length b) σ) (after_of (get x) (length b) k (started (length b) σ))) (started_body b e accepted σ set)

  line_says : 0 < length b → (k : ℕ) → said_run k (room_of b) (started_of (length b) σ) ≡ map say_of (answers_of (get b) (length b) k (started (length b) σ))
  unfolding started_of
  line_says some k =
      ap (said_run k (room_of b)) (start_is some)
      ∙ follows_said (room_of b) (started_of (length b) σ) (started_busy b e accepted σ set) k (started (length b) σ) (start_kept some)
      ∙ ap (λ (x : List ℕ). map say_of (answers_of (get x) (length b) k (started (length b) σ))) (started_body b e accepted σ set)

  -- Busy as a state is Busy as a run
  busy_run : 0 < length b → (s : State) → Busy s → BusyRun (run_of (started_of (length b) σ) s)
  unfolding started_of
  busy_run some (ready τ) h = absurd h
  busy_run some (at p fs τ) h = λ w. omega arith

-- what the states say is what the records answer
said_are : (xs : List Performed) → map say_of (map did xs) ≡ answers_for xs
said_are [] = refl
said_are (x ∷ xs) = ap (λ (ys : List (Result (Option Performed) Refusal)). Ok (Some x) ∷ ys) (said_are xs)

-- a finite program that was started
pub record LineEnds (b : List ℕ) (σ : Settings) : Type 0 where
  pub ready_then : after_run (length (line_of b σ)) (room_of b) (started_of (length b) σ) ≡ ready_of (exit_of (tree_in b).block σ)
  pub busy_before : (k : ℕ) → k < length (line_of b σ) → BusyRun (after_run k (room_of b) (started_of (length b) σ))
  pub performed : said_run (length (line_of b σ)) (room_of b) (started_of (length b) σ) ≡ answers_for (line_of b σ)
  pub most : length (line_of b σ) ≤ 3961

pub line_ends : (b : List ℕ) → judge_of b ≡ Ok Finite → (σ : Settings) → settings_sound σ ≡ true → LineEnds b σ
line_ends b e σ set =
    let p = program b (Ok Finite) e tt in
    let t = finite_ends b e σ in
    let xs = line_of b σ in
    let n = length xs in
    let r = started_of (length b) σ in
    record {
      ready_then = line_follows b false e σ set p.some n ∙ ap (run_of r) t.ready_then;
      busy_before = λ k less.
          subst BusyRun (sym (line_follows b false e σ set p.some k))
          (busy_run b false e σ set p.some (after_of (get b) (length b) k (started (length b) σ)) (t.busy_before k less));
      performed = line_says b false e σ set p.some n ∙ ap (map say_of) t.performed ∙ said_are xs;
      most = t.most;
    }

-- an endless program is never Ready, however many steps it gets
pub line_never : (b : List ℕ) → judge_of b ≡ Ok Endless → (σ : Settings) → settings_sound σ ≡ true → (k : ℕ) → BusyRun (after_run k (room_of b) (started_of (length b) σ))
line_never b e σ set k =
    let p = program b (Ok Endless) e tt in
    subst BusyRun (sym (line_follows b true e σ set p.some k))
    (busy_run b true e σ set p.some (after_of (get b) (length b) k (started (length b) σ)) (endless_never b e σ k))

-- its first answers are the first of what its rounds perform, however many are asked for: so no step of it is refused
pub line_goes : (b : List ℕ) → judge_of b ≡ Ok Endless → (σ : Settings) → settings_sound σ ≡ true → (k : ℕ)
    → said_run k (room_of b) (started_of (length b) σ) ≡ answers_for (take k (rounds_of k b σ))
line_goes b e σ set k =
    let p = program b (Ok Endless) e tt in
    line_says b true e σ set p.some k ∙ ap (map say_of) (endless_performs b e σ k) ∙ said_are (take k (rounds_of k b σ))

-- and every run on the way is sound
pub after_sound : (k : ℕ) (room : List ℕ) (r : Run) → sound_of room r ≡ true → sound_of room (after_run k room r) ≡ true
after_sound zero room r sound = sound
after_sound (suc k) room r sound = after_sound k room (step_of room r).run (step_keeps room r sound)
