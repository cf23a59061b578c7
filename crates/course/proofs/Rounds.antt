-- Endless programs perform their rounds: the first answers of the steps are the first of what the rounds perform, however many are asked for.
use Prim.Native.Nat.{ℕ, zero, suc, ◌+◌, ◌≤◌}
use mathlib.Core.List.{List, [], ◌∷◌, ◌++◌, map, append_assoc}
use mathlib.Core.Path.{◌≡◌, subst}
use native.Mathlib.Omega.{arith}
use lib.ListN.{length, take, length-append}
use Rattle.perform.specs.declared.settings.Settings.{Settings}
use Rattle.perform.specs.declared.price.Performed.{Performed}
use Rattle.loops.specs.Token.{Part, rep, forever, again, Tok, get}
use Rattle.judge.specs.Verdict.{judge_of}
use Rattle.judge.specs.declared.Ending.TheVariants.{Endless}
use Rattle.std.proofs.Common.{Ok}
use Rattle.course.specs.Steps.{frame, State, settle, did, says_of, answers_of, started}
use Rattle.course.specs.Tree.{Block, Ending, ends, starts, ever, tree_in, times, exit_of, unrolled, rounds, ended_by, endlessly, flat, flat_end}
use Rattle.course.proofs.Accepts.{shape}
use Rattle.course.proofs.Courses.{runs_first}
use Rattle.course.proofs.Programs.{Program, program}
use Rattle.course.proofs.Runs.{Runs, done, At, past, at_past, tick, runs_append, block_runs}
use Rattle.course.proofs.Theorem.{loops_count}

-- a round is one command at least
rounds_most : (m : ℕ) (back : Part) (t : Block) (σ : Settings) → m ≤ length (rounds m back t σ)
rounds_most zero back t σ = omega arith
rounds_most (suc m) back t σ =
    omega (arith, rounds_most m back t (exit_of t σ), length-append (unrolled t σ) (says_of back (exit_of t σ) ∷ rounds m back t (exit_of t σ)))

module _ (g : ℕ → Tok) (len : ℕ) where
  -- a command after others, and what runs from there on
  onward : {s t u : State} {ys : List Performed} (xs : List Performed) (x : Performed) → Runs g len s (xs ++ x ∷ []) t → Runs g len t ys u
      → Runs g len s (xs ++ x ∷ ys) u
  onward {s} {t} {u} {ys} xs x r q =
      subst (λ (zs : List Performed). Runs g len s zs u) (append_assoc xs (x ∷ []) ys) (runs_append g len r q)

  -- a block that comes back to where it began, with the settings that it left
  rounds_run : (back : Part) (t : Block) (here : Settings → State)
      → ((τ : Settings) → Runs g len (here τ) (unrolled t τ ++ says_of back (exit_of t τ) ∷ []) (here (exit_of t τ)))
      → (m : ℕ) (τ : Settings)
      → Runs g len (here τ) (rounds m back t τ) (here (times m (exit_of t) τ))
  rounds_run back t here way zero τ = done
  rounds_run back t here way (suc m) τ = onward (unrolled t τ) (says_of back (exit_of t τ)) (way τ) (rounds_run back t here way m (exit_of t τ))

pub endless_performs : (b : List ℕ) → judge_of b ≡ Ok Endless → (σ : Settings) (k : ℕ)
    → answers_of (get b) (length b) k (started (length b) σ) ≡ map did (take k (endlessly k (tree_in b) σ))
endless_performs b e σ k = go (tree_in b).ending p.verdict p.stands
  where
    p : Program b (Ok Endless)
    p = program b (Ok Endless) e tt

    t : Block
    t = (tree_in b).block

    len : ℕ
    len = length b

    go : (x : Ending) → shape [] x ≡ Ok Endless → At (get b) len 0 (flat t (flat_end x))
        → answers_of (get b) len k (started len σ) ≡ map did (take k (ended_by x k t σ))
    go ends q h = let z : ◌≡◌ {A = ℕ} 0 1 = cc in absurd (omega arith)
    go starts q h =
        let there = at_past (get b) len t (again ∷ []) 0 h in
        let way = rounds_run (get b) len again t (settle len 0 [])
        (λ τ.
        runs_append (get b) len (block_runs (get b) len (loops_count b) t (again ∷ []) 0 [] τ h)
        (tick (get b) len again (past t 0) [] (exit_of t τ) there.0 there.1.0 done))
        k
        σ in
        runs_first (get b) len way k (rounds_most k again t σ)
    go (ever n z body) q h =
        let r = past t 0 in
        let there = at_past (get b) len t (rep n z ∷ flat body (forever ∷ [])) 0 h in
        let at' = r + z in
        let fs = frame at' n ∷ [] in
        let last = at_past (get b) len body (forever ∷ []) at' there.1.1 in
        let lead = runs_append (get b) len (block_runs (get b) len (loops_count b) t (rep n z ∷ flat body (forever ∷ [])) 0 [] σ h)
        (tick (get b) len (rep n z) r [] (exit_of t σ) there.0 there.1.0 done) in
        let way = rounds_run (get b) len forever body (settle len at' fs)
        (λ τ.
        runs_append (get b) len (block_runs (get b) len (loops_count b) body (forever ∷ []) at' fs τ there.1.1)
        (tick (get b) len forever (past body at') fs (exit_of body τ) last.0 last.1.0 done))
        k
        (exit_of t σ) in
        let most : k ≤ length (ended_by (ever n z body) k t σ) =
        omega (arith, rounds_most k forever body (exit_of t σ), length-append (unrolled t σ) (says_of (rep n z) (exit_of t σ) ∷ rounds k forever body (exit_of t σ))) in
        runs_first (get b) len (onward (get b) len (unrolled t σ) (says_of (rep n z) (exit_of t σ)) lead way) k most
