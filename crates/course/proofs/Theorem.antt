-- Demand 3 over the definitions: an accepted program without an endless ending is Ready after exactly as many steps as it has
-- commands unrolled and not sooner, its answers are those commands, every sum over them is its price, and the steps never pass
-- 3,961; an endless one is never Ready.
use Prim.Native.Nat.{ℕ, ◌+◌, ◌≤◌, ◌<◌}
use mathlib.Core.List.{List, [], ◌∷◌, ◌++◌, map}
use mathlib.Core.Path.{◌≡◌, refl, sym, ◌∙◌, subst}
use native.Mathlib.Omega.{arith}
use lib.ListN.{length, length-append}
use Rattle.perform.specs.declared.settings.Settings.{Settings}
use Rattle.perform.specs.declared.price.Performed.{Performed}
use Rattle.loops.specs.Token.{Part, act, rep, close, forever, again, good, get}
use Rattle.judge.specs.Verdict.{judge_of}
use Rattle.judge.specs.declared.Ending.TheVariants.{Finite, Endless}
use Rattle.std.proofs.Common.{Ok}
use Rattle.loops.proofs.Tokens.{get_two, get_within}
use Rattle.course.specs.Steps.{frame, State, ready, settle, did, Busy, says_of, after_of, answers_of, started}
use Rattle.course.specs.Tree.{Block, stop, one, loop, Ending, ends, starts, ever, exit_of, unrolled, flat, flat_end, tree_in}
use Rattle.course.specs.Price.{sum_by, ones, price_of}
use Rattle.course.proofs.Accepts.{shape}
use Rattle.course.proofs.Bound.{most_steps_lem}
use Rattle.course.proofs.Changes.{Counted}
use Rattle.course.proofs.Courses.{runs_after, runs_busy, runs_answers, never, led}
use Rattle.loops.proofs.Values.{get_loop}
use Rattle.course.proofs.Programs.{Program, program}
use Rattle.course.proofs.Runs.{Runs, done, At, past, at_past, tick, runs_append, settle_ready, block_runs}
use Rattle.course.proofs.Sums.{price_is}

-- the loops of a block that stands in a body have numbers of 1 at least
counted : (b : List ℕ) (t : Block) (k : List Part) (p : ℕ) → At (get b) (length b) p (flat t k) → Counted t
counted b stop k p h = tt
counted b (one a t) k p h = counted b t k (p + a.size) h.1.1
counted b (loop n z body t) k p h = (
  (get_loop b p n z h.1.0).least,
  (
    counted b body (close ∷ flat t k) (p + z) h.1.1,
    counted b t k (past body (p + z) + 2) (at_past (get b) (length b) body (close ∷ flat t k) (p + z) h.1.1).1.1,
  ),
)

-- and a block that stands in a body ends within it
past_within : (b : List ℕ) (t : Block) (k : List Part) (p : ℕ) → p ≤ length b → At (get b) (length b) p (flat t k) → past t p ≤ length b
past_within b stop k p w h = w
past_within b (one a t) k p w h = past_within b t k (p + a.size) (get_within b p (act a) h.1.0) h.1.1
past_within b (loop n z body t) k p w h =
    let e = at_past (get b) (length b) body (close ∷ flat t k) (p + z) h.1.1 in
    past_within b t k (past body (p + z) + 2) (get_within b (past body (p + z)) close e.1.0) e.1.1

pub loops_count : (b : List ℕ) (p n z : ℕ) → get b p ≡ good (rep n z) → 1 ≤ n
loops_count b p n z e = (get_loop b p n z e).least

-- as many commands as ones
ones_length : (xs : List Performed) → sum_by ones xs ≡ length xs
ones_length [] = refl
ones_length (x ∷ xs) = omega (arith, ones_length xs)

-- how a program that comes to an end runs, from any settings
pub record Ends (b : List ℕ) (t : Block) (σ : Settings) : Type 0 where
  pub ready_then : after_of (get b) (length b) (length (unrolled t σ)) (started (length b) σ) ≡ ready (exit_of t σ)
  pub busy_before : (k : ℕ) → k < length (unrolled t σ) → Busy (after_of (get b) (length b) k (started (length b) σ))
  pub performed : answers_of (get b) (length b) (length (unrolled t σ)) (started (length b) σ) ≡ map did (unrolled t σ)
  pub adds_up : (f : Performed → ℕ) → sum_by f (unrolled t σ) ≡ price_of f t σ
  pub counts : length (unrolled t σ) ≡ price_of ones t σ
  pub most : length (unrolled t σ) ≤ 3961

-- a program that comes to an end has no ending of its own
no_ending : (e : Ending) → shape [] e ≡ Ok Finite → e ≡ ends
no_ending ends q = refl
no_ending starts q = let z : ◌≡◌ {A = ℕ} 0 1 = cc in absurd (omega arith)
no_ending (ever n z t) q = let w : ◌≡◌ {A = ℕ} 0 1 = cc in absurd (omega arith)

-- so its block's commands stand in the body, from its first byte to its end
pub finite_stands : (b : List ℕ) → judge_of b ≡ Ok Finite → At (get b) (length b) 0 (flat (tree_in b).block [])
finite_stands b e =
    let p = program b (Ok Finite) e tt in
    subst (λ (x : Ending). At (get b) (length b) 0 (flat (tree_in b).block (flat_end x))) (no_ending (tree_in b).ending p.verdict) p.stands

pub finite_ends : (b : List ℕ) → judge_of b ≡ Ok Finite → (σ : Settings) → Ends b (tree_in b).block σ
finite_ends b e σ =
    let p = program b (Ok Finite) e tt in
    let t = (tree_in b).block in
    let g = get b in
    let len = length b in
    let here : At g len 0 (flat t []) = finite_stands b e in
    let r = block_runs g len (loops_count b) t [] 0 [] σ here in
    let behind = at_past g len t [] 0 here in
    let c = counted b t [] 0 here in
    let n = ones_length (unrolled t σ) in
    let within : past t 0 ≤ len = past_within b t [] 0 (omega arith) here in
    let bound = most_steps_lem g len (get_two b) (get_loop b) t σ p.deep here (omega (arith, p.most)) in
    let sum = price_is ones t c σ in
    record {
      ready_then = runs_after g len r ∙ settle_ready g len (past t 0) [] (exit_of t σ) behind;
      busy_before = runs_busy g len r;
      performed = runs_answers g len r;
      adds_up = λ f. price_is f t c σ;
      counts = sym n ∙ sum;
      most = omega arith;
    }

-- within a program that starts over, or within its loop for ever
pub endless_never : (b : List ℕ) → judge_of b ≡ Ok Endless → (σ : Settings) (k : ℕ) → Busy (after_of (get b) (length b) k (started (length b) σ))
endless_never b e σ k = go (tree_in b).ending p.verdict p.stands
  where
    p : Program b (Ok Endless)
    p = program b (Ok Endless) e tt

    t : Block
    t = (tree_in b).block

    snoc : (xs : List Performed) (y : Performed) → 0 < length (xs ++ y ∷ [])
    snoc xs y = omega (arith, length-append xs (y ∷ []))

    go : (x : Ending) → shape [] x ≡ Ok Endless → At (get b) (length b) 0 (flat t (flat_end x)) → Busy (after_of (get b) (length b) k (started (length b) σ))
    go ends q h = let z : ◌≡◌ {A = ℕ} 0 1 = cc in absurd (omega arith)
    go starts q h =
        let len = length b in
        let r = past t 0 in
        let there = at_past (get b) len t (again ∷ []) 0 h in
        never (get b) len (λ (s : State). (τ : Settings) × (s ≡ settle len 0 [] τ))
        (λ s w.
        let τ = w.0 in
        record {
          all = unrolled t τ ++ says_of again (exit_of t τ) ∷ [];
          some = snoc (unrolled t τ) (says_of again (exit_of t τ));
          back = settle len 0 [] (exit_of t τ);
          way = subst (λ (x : State). Runs (get b) len x (unrolled t τ ++ says_of again (exit_of t τ) ∷ []) (settle len 0 [] (exit_of t τ))) (sym w.1)
              (runs_append (get b) len (block_runs (get b) len (loops_count b) t (again ∷ []) 0 [] τ h)
              (tick (get b) len again r [] (exit_of t τ) there.0 there.1.0 done));
          within = (exit_of t τ, refl);
        })
        k
        (started len σ)
        (σ, refl)
    go (ever n z body) q h =
        let len = length b in
        let r = past t 0 in
        let there = at_past (get b) len t (rep n z ∷ flat body (forever ∷ [])) 0 h in
        let q1 = r + z in
        let fs = frame q1 n ∷ [] in
        let inner = there.1.1 in
        let r1 = past body q1 in
        let last = at_past (get b) len body (forever ∷ []) q1 inner in
        let lead = runs_append (get b) len (block_runs (get b) len (loops_count b) t (rep n z ∷ flat body (forever ∷ [])) 0 [] σ h)
        (tick (get b) len (rep n z) r [] (exit_of t σ) there.0 there.1.0 done) in
        led (get b) len lead
        (λ j.
        never (get b) len (λ (s : State). (τ : Settings) × (s ≡ settle len q1 fs τ))
        (λ s w.
        let τ = w.0 in
        record {
          all = unrolled body τ ++ says_of forever (exit_of body τ) ∷ [];
          some = snoc (unrolled body τ) (says_of forever (exit_of body τ));
          back = settle len q1 fs (exit_of body τ);
          way = subst (λ (x : State). Runs (get b) len x (unrolled body τ ++ says_of forever (exit_of body τ) ∷ []) (settle len q1 fs (exit_of body τ))) (sym w.1)
              (runs_append (get b) len (block_runs (get b) len (loops_count b) body (forever ∷ []) q1 fs τ inner)
              (tick (get b) len forever r1 fs (exit_of body τ) last.0 last.1.0 done));
          within = (exit_of body τ, refl);
        })
        j
        (settle len q1 fs (exit_of t σ))
        (exit_of t σ, refl))
        k
