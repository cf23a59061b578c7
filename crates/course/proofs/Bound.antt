-- The steps of a program whose loops don't nest: at most 3,961 for 84 bytes. A command takes two bytes at least, and the dearest
-- loop spends its `L99` and `E` on 99 passes: 99 * 84 - 394 is twice 3,961.
use Prim.Native.Nat.{ℕ, zero, suc, ◌+◌, ◌-◌, ◌*◌, ◌≤◌}
use mathlib.Core.List.{List, [], ◌∷◌}
use mathlib.Core.Path.{◌≡◌}
use mathlib.Core.Logic.{◌⊎◌, inl, inr, ⊎_elim, dite}
use native.Mathlib.Decide.{dec_lt}
use native.Mathlib.Nat.{mul-le-mul_left, mul-le-mul_right}
use native.Mathlib.Omega.{arith}
use Rattle.perform.specs.declared.settings.Settings.{Settings}
use Rattle.loops.specs.Token.{Part, act, rep, close, Tok, good, size_of}
use Rattle.course.specs.Steps.{sets_of}
use Rattle.course.specs.Tree.{Block, stop, one, loop, flat}
use Rattle.course.specs.Price.{ones, leaves_of, price_of}
use Rattle.course.proofs.Accepts.{Depth}
use Rattle.loops.proofs.Values.{Loops}
use Rattle.course.proofs.Runs.{At, past, at_past}

-- passes of at most half of x commands each, and `E`
passes_bound : (m a b x c : ℕ) → 2 * a ≤ x → 2 * b ≤ x → suc m ≤ c → 2 * (a + 1 + m * (b + 1)) ≤ c * (x + 2)
passes_bound m a b x c ha hb hc =
    let each : 2 * (b + 1) ≤ x + 2 = omega arith in
    omega (arith, mul-le-mul_left m each, mul-le-mul_right (x + 2) hc)

module _ (g : ℕ → Tok) (len : ℕ) (two : (p : ℕ) (c : Part) → g p ≡ good c → 2 ≤ size_of c)
    (loops : (p n z : ℕ) → g p ≡ good (rep n z) → Loops n z) where
  -- a block without loops: two bytes a step
  flat_steps : (b : Block) (k : List Part) (p : ℕ) (σ : Settings) → Depth 0 b → At g len p (flat b k) → p + 2 * price_of ones b σ ≤ past b p
  flat_steps stop k p σ d h = omega arith
  flat_steps (one a b) k p σ d h =
      omega (arith, two p (act a) h.1.0, flat_steps b k (p + a.size) (sets_of a σ) d h.1.1)
  flat_steps (loop n z body b) k p σ d h = absurd d

  -- and one with loops, in two arms: none was met, or one was
  deep_steps : (b : Block) (k : List Part) (p : ℕ) (σ : Settings) → Depth 1 b → At g len p (flat b k)
      → (p + 2 * price_of ones b σ ≤ past b p) ⊎ (394 + 99 * p + 2 * price_of ones b σ ≤ 99 * past b p)
  deep_steps stop k p σ d h = inl (omega arith)
  deep_steps (one a b) k p σ d h =
      let size = two p (act a) h.1.0 in
      ⊎_elim (λ w. inl (omega arith)) (λ w. inr (omega arith)) (deep_steps b k (p + a.size) (sets_of a σ) d h.1.1)
  deep_steps (loop zero z body b) k p σ d h = absurd (omega (arith, (loops p zero z h.1.0).least))
  deep_steps (loop (suc m) z body b) k p σ d h =
      let n = suc m in
      let l = loops p n z h.1.0 in
      let q = past body (p + z) in
      let τ = leaves_of body σ in
      let first = flat_steps body (close ∷ flat b k) (p + z) σ d.0 h.1.1 in
      let later = flat_steps body (close ∷ flat b k) (p + z) τ d.0 h.1.1 in
      let x = q - (p + z) in
      let ha : 2 * price_of ones body σ ≤ x = omega arith in
      let hb : 2 * price_of ones body τ ≤ x = omega arith in
      let behind = (at_past g len body (close ∷ flat b k) (p + z) h.1.1).1.1 in
      let rest : 99 * (q + 2) + 2 * price_of ones b τ ≤ 99 * past b (q + 2) =
      ⊎_elim (λ w. omega arith) (λ w. omega arith) (deep_steps b k (q + 2) τ d.1 behind) in
      dite (dec_lt n 10)
      (λ few. let nine : suc m ≤ 9 = omega arith in
      inr (omega (arith, l.digits, passes_bound m (price_of ones body σ) (price_of ones body τ) x 9 ha hb nine)))
      (λ many. inr (omega (arith, l.digits, passes_bound m (price_of ones body σ) (price_of ones body τ) x 99 ha hb l.most)))

  pub most_steps_lem : (b : Block) (σ : Settings) → Depth 1 b → At g len 0 (flat b []) → past b 0 ≤ 84 → price_of ones b σ ≤ 3961
  most_steps_lem b σ d h size = ⊎_elim (λ w. omega arith) (λ w. omega arith) (deep_steps b [] 0 σ d h)
