-- What is stepped is what is unrolled: a block that stands at a place is run, command by command, to the place behind it.
use Prim.Native.Nat.{ℕ, zero, suc, ◌+◌, ◌≤◌, ◌<◌}
use mathlib.Core.List.{List, [], ◌∷◌, ◌++◌}
use mathlib.Core.Path.{◌≡◌, sym, subst}
use native.Mathlib.Omega.{arith}
use borrow.Author.Tests.{lt-ltb, le-ltb}
use Rattle.basis.proofs.Choices.{when_true, when_false}
use Rattle.perform.specs.declared.settings.Settings.{Settings}
use Rattle.perform.specs.declared.price.Performed.{Performed}
use Rattle.loops.specs.Token.{Part, act, rep, close, Tok, good, size_of}
use Rattle.course.specs.Steps.{Frame, frame, State, ready, at, settle, says_of, sets_of, goes_of}
use Rattle.course.specs.Tree.{Block, stop, one, loop, times, exit_of, passes, unrolled, flat}

-- from a state by these commands to another, Busy before each
pub data Runs (g : ℕ → Tok) (len : ℕ) : State → List Performed → State → Type 0 where
  done : {s : State} → Runs g len s [] s
  more : {p : ℕ} {fs : List Frame} {σ : Settings} {xs : List Performed} {t : State} (c : Part) → g p ≡ good c
      → Runs g len (goes_of len c p fs σ) xs t
      → Runs g len (at p fs σ) (says_of c σ ∷ xs) t

-- the place behind a block
abbrev pub past : Block → ℕ → ℕ
past stop p = p
past (one a b) p = past b (p + a.size)
past (loop n z body b) p = past b (past body (p + z) + 2)

-- what stands from a place on, to the end, is these commands
abbrev pub At : (ℕ → Tok) → ℕ → ℕ → List Part → Type 0
At g len p [] = len ≤ p
At g len p (c ∷ cs) = (p < len) × ((g p ≡ good c) × At g len (p + size_of c) cs)

module _ (g : ℕ → Tok) (len : ℕ) where
  pub runs_append : {s t u : State} {xs ys : List Performed} → Runs g len s xs t → Runs g len t ys u → Runs g len s (xs ++ ys) u
  runs_append done r = r
  runs_append (more c e q) r = more c e (runs_append q r)

  -- within the body the sign is Busy
  pub settle_at : (p : ℕ) (fs : List Frame) (σ : Settings) → p < len → settle len p fs σ ≡ at p fs σ
  unfolding settle
  settle_at p fs σ h = when_true _ _ _ (lt-ltb p len h)

  -- and behind it Ready
  pub settle_ready : (p : ℕ) (fs : List Frame) (σ : Settings) → len ≤ p → settle len p fs σ ≡ ready σ
  unfolding settle
  settle_ready p fs σ h = when_false _ _ _ (le-ltb p len h)

  -- one command that stands at a place
  pub tick : (c : Part) (p : ℕ) (fs : List Frame) (σ : Settings) {xs : List Performed} {t : State} → p < len → g p ≡ good c
      → Runs g len (goes_of len c p fs σ) xs t
      → Runs g len (settle len p fs σ) (says_of c σ ∷ xs) t
  tick c p fs σ {xs} {t} h e r = subst (λ (s : State). Runs g len s (says_of c σ ∷ xs) t) (sym (settle_at p fs σ h)) (more c e r)

  -- what stands behind a block
  pub at_past : (b : Block) (k : List Part) (p : ℕ) → At g len p (flat b k) → At g len (past b p) k
  at_past stop k p h = h
  at_past (one a b) k p h = at_past b k (p + a.size) h.1.1
  at_past (loop n z body b) k p h =
      at_past b k (past body (p + z) + 2) (at_past body (close ∷ flat b k) (p + z) h.1.1).1.1

  -- the passes of a loop whose commands run from q to r, where `E` stands
  passes_run : (does : Settings → List Performed) (exit : Settings → Settings) (q r : ℕ) (fs : List Frame)
      → ((gs : List Frame) (σ : Settings) → Runs g len (settle len q gs σ) (does σ) (settle len r gs (exit σ)))
      → r < len
      → g r ≡ good close
      → (m : ℕ) (σ : Settings)
      → Runs g len (settle len q (frame q (suc m) ∷ fs) σ) (passes (suc m) does exit σ) (settle len (r + 2) fs (times (suc m) exit σ))
  passes_run does exit q r fs body h e zero σ =
      runs_append (body (frame q 1 ∷ fs) σ) (tick close r (frame q 1 ∷ fs) (exit σ) h e done)
  passes_run does exit q r fs body h e (suc m) σ =
      runs_append (body (frame q (suc (suc m)) ∷ fs) σ)
      (tick close r (frame q (suc (suc m)) ∷ fs) (exit σ) h e (passes_run does exit q r fs body h e m (exit σ)))

  module _ (counted : (p n z : ℕ) → g p ≡ good (rep n z) → 1 ≤ n) where
    pub block_runs : (b : Block) (k : List Part) (p : ℕ) (fs : List Frame) (σ : Settings) → At g len p (flat b k)
        → Runs g len (settle len p fs σ) (unrolled b σ) (settle len (past b p) fs (exit_of b σ))
    block_runs stop k p fs σ h = done
    block_runs (one a b) k p fs σ h =
        tick (act a) p fs σ h.0 h.1.0 (block_runs b k (p + a.size) fs (sets_of a σ) h.1.1)
    block_runs (loop zero z body b) k p fs σ h = absurd (omega (arith, counted p zero z h.1.0))
    block_runs (loop (suc n) z body b) k p fs σ h =
        let q = p + z in
        let r = past body q in
        let ends = at_past body (close ∷ flat b k) q h.1.1 in
        tick (rep (suc n) z) p fs σ h.0 h.1.0
        (runs_append
        (passes_run (unrolled body) (exit_of body) q r fs (λ gs τ. block_runs body (close ∷ flat b k) q gs τ h.1.1) ends.0
        ends.1.0
        n
        σ)
        (block_runs b k (r + 2) fs (times (suc n) (exit_of body) σ) ends.1.1))
