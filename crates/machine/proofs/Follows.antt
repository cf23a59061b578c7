-- Runs follow the course of their program: the record after k steps is the record of the state after k steps, and so are the
-- answers; a body just started is sound where it is accepted.
use Prim.Native.Nat.{ℕ, zero, suc, ◌≤◌, ◌<◌}
use mathlib.Core.List.{List, [], ◌∷◌, map}
use mathlib.Core.Bool.{Bool, true, false}
use mathlib.Core.Path.{◌≡◌, refl, sym, ap, ◌∙◌, subst}
use native.Mathlib.Omega.{arith}
use lib.ListN.{length, drop, replicate}
use borrow.Author.Tests.{le-leb}
use Rattle.basis.specs.Bytes.{laid}
use Rattle.basis.proofs.Choices.{and_true}
use Rattle.basis.proofs.Laid.{take_laid, drop_laid, length_laid}
use Rattle.std.specs.Prelude.{Result, Option, Some}
use Rattle.refusal.specs.declared.Refusal.{Refusal}
use Rattle.perform.specs.declared.price.Performed.{Performed}
use Rattle.perform.specs.Settings.{sound_of as settings_sound}
use Rattle.perform.specs.declared.settings.Settings.{Settings}
use Rattle.loops.specs.Token.{get}
use Rattle.judge.specs.Verdict.{judge_of}
use Rattle.grammar.specs.Grammar.{accepted_as}
use Rattle.grammar.specs.Reach.{start}
use Rattle.judge.specs.Standing.{stand_of}
use Rattle.judge.specs.declared.Standing.{Standing}
use Rattle.judge.specs.declared.Standing.TheVariants.{Outside}
use Rattle.grammar.proofs.Standings.{at_stands}
use Rattle.course.specs.Steps.{Frame, State, ready, at, next_of, said_of, after_of, answers_of}
use Rattle.course.proofs.Programs.{accepting}
use Rattle.room.specs.Room.{zeros_of, room_of}
use Rattle.machine.specs.Sound.{body_of, held_of, filled_of, sound_of}
use Rattle.machine.specs.Step.{outside, frames_of, loop_of, ready_of, run_of, say_of, step_of, after_run, said_run, started_of}
use Rattle.machine.specs.declared.Run.{Run}
use Rattle.machine.specs.declared.Stepped.{Stepped}
use Rattle.machine.proofs.Keeps.{Kept, run_keeps, step_ready, step_busy}
use Rattle.machine.proofs.Reached.{accepted_yes}
use Rattle.machine.proofs.Sounds.{running}

-- a run of the same body, in any state
same_body : (r : Run) (p : ℕ) (fs : List Frame) (σ : Settings) (s : State) → run_of (run_of r (at p fs σ)) s ≡ run_of r s
same_body r p fs σ (ready τ) = refl
same_body r p fs σ (at q gs τ) = refl

pub ready_none : (σ : Settings) → (ready_of σ).len ≡ 0
unfolding ready_of
ready_none σ = refl

module _ (room : List ℕ) (r : Run) (busy : r.len ≡ 0 → ⊥) where
  -- one step of a run of this body
  follow_run : (s : State) → Kept room r s → (step_of room (run_of r s)).run ≡ run_of r (next_of (get (body_of room r)) r.len s)
  follow_run (ready σ) k = ap (λ (x : Stepped). x.run) (step_ready room (ready_of σ) k.0 (ready_none σ))
  follow_run (at p fs σ) k =
      ap (λ (x : Stepped). x.run) (step_busy room (run_of r (at p fs σ)) k.0 busy)
      ∙ same_body r p fs σ (next_of (get (body_of room r)) r.len (at p (frames_of (loop_of fs)) σ))
      ∙ ap (λ (gs : List Frame). run_of r (next_of (get (body_of room r)) r.len (at p gs σ))) k.1

  follow_said : (s : State) → Kept room r s → (step_of room (run_of r s)).answer ≡ say_of (said_of (get (body_of room r)) s)
  follow_said (ready σ) k = ap (λ (x : Stepped). x.answer) (step_ready room (ready_of σ) k.0 (ready_none σ))
  follow_said (at p fs σ) k = ap (λ (x : Stepped). x.answer) (step_busy room (run_of r (at p fs σ)) k.0 busy)

  follow_kept : (s : State) → Kept room r s → Kept room r (next_of (get (body_of room r)) r.len s)
  follow_kept (ready σ) k = k
  follow_kept (at p fs σ) k =
      let next = next_of (get (body_of room r)) r.len (at p (frames_of (loop_of fs)) σ) in
      let kept = run_keeps room (run_of r (at p fs σ)) k.0 busy in
      let here : Kept room r next = (ap (sound_of room) (sym (same_body r p fs σ next)) ∙ kept.0, kept.1) in
      subst (λ (gs : List Frame). Kept room r (next_of (get (body_of room r)) r.len (at p gs σ))) k.1 here

  -- so many steps
  pub follows : (k : ℕ) (s : State) → Kept room r s → after_run k room (run_of r s) ≡ run_of r (after_of (get (body_of room r)) r.len k s)
  follows zero s h = refl
  follows (suc k) s h =
      ap (after_run k room) (follow_run s h) ∙ follows k (next_of (get (body_of room r)) r.len s) (follow_kept s h)

  pub follows_said : (k : ℕ) (s : State) → Kept room r s → said_run k room (run_of r s) ≡ map say_of (answers_of (get (body_of room r)) r.len k s)
  follows_said zero s h = refl
  follows_said (suc k) s h =
      ap (λ (x : Result (Option Performed) Refusal). x ∷ said_run k room (step_of room (run_of r s)).run) (follow_said s h)
      ∙ ap (λ (x : Run). say_of (said_of (get (body_of room r)) s) ∷ said_run k room x) (follow_run s h)
      ∙ ap (λ (xs : List (Result (Option Performed) Refusal)). say_of (said_of (get (body_of room r)) s) ∷ xs) (follows_said k (next_of (get (body_of room r)) r.len s) (follow_kept s h))

-- zeros are zeros
zeros_left : (n : ℕ) → zeros_of (replicate n 0) ≡ true
zeros_left zero = refl
zeros_left (suc n) = zeros_left n

drop_zeros : (k n : ℕ) → zeros_of (drop k (replicate n 0)) ≡ true
drop_zeros zero n = zeros_left n
drop_zeros (suc k) zero = refl
drop_zeros (suc k) (suc n) = drop_zeros k n

-- an accepted body's first command stands outside loops
first_outside : (b : List ℕ) (e : Bool) → judge_of b ≡ accepted_as e → 0 < length b → stand_of b 0 ≡ Some Outside
first_outside b e a within =
    at_stands b 0 (Some Outside)
    (record { endless = e; accepted = a; within = within; room = 1; ended = false; opens = []; reached = start; stands = refl })

module _ (b : List ℕ) (e : Bool) (accepted : judge_of b ≡ accepted_as e) (σ : Settings) (set : settings_sound σ ≡ true) where
  -- a body just started stands at the front of its room
  pub started_body : body_of (room_of b) (started_of (length b) σ) ≡ b
  unfolding room_of started_of
  started_body = take_laid b (replicate 84 0)

  pub started_room : length (room_of b) ≡ 84
  unfolding room_of
  started_room =
      let most : length b ≤ 84 = (accepting b (accepted_as e) accepted (accepted_yes e)).1.0 in
      length_laid b (replicate 84 0) most

  pub started_busy : (started_of (length b) σ).len ≡ 0 → ⊥
  unfolding started_of
  started_busy h = omega (arith, (accepting b (accepted_as e) accepted (accepted_yes e)).0)

  -- which holds zeros after it
  pub started_filled : filled_of (room_of b) (length b) ≡ true
  unfolding room_of
  started_filled =
      let a = accepting b (accepted_as e) accepted (accepted_yes e) in
      and_true _ _ (le-leb (length b) (length (laid b (replicate 84 0))) (omega (arith, a.1.0, length_laid b (replicate 84 0) a.1.0)))
      (ap zeros_of (drop_laid b (replicate 84 0)) ∙ drop_zeros (length b) 84)

  -- and its run is sound
  pub started_sound : sound_of (room_of b) (started_of (length b) σ) ≡ true
  unfolding started_of
  started_sound =
      let a = accepting b (accepted_as e) accepted (accepted_yes e) in
      running (room_of b) (started_of (length b) σ) set (λ h. omega (arith, a.0)) started_filled
      ∙ ap (λ (x : List ℕ). held_of (stand_of x 0) outside) started_body
      ∙ ap (λ (s : Option Standing). held_of s outside) (first_outside b e accepted a.0)
