-- What is unrolled costs its price, by any measure: two readings of a loop are enough.
use Prim.Native.Nat.{ℕ, zero, suc, ◌+◌, ◌*◌}
use mathlib.Core.List.{List, [], ◌∷◌, ◌++◌}
use mathlib.Core.Path.{◌≡◌, refl, sym, ap, ◌∙◌}
use native.Mathlib.Omega.{arith}
use Rattle.perform.specs.Price.{answer_of}
use Rattle.perform.specs.declared.settings.Settings.{Settings}
use Rattle.perform.specs.declared.price.Performed.{Performed}
use Rattle.loops.specs.Token.{act, close}
use Rattle.course.specs.Steps.{says_of, sets_of}
use Rattle.course.specs.Tree.{Block, stop, one, loop, times, exit_of, passes, unrolled}
use Rattle.course.specs.Price.{sum_by, leaves_of, price_of}
use Rattle.course.proofs.Changes.{Counted, exit_leaves, times_exit, leaves_twice}

module _ (f : Performed → ℕ) where
  pub sum_append : (xs ys : List Performed) → sum_by f (xs ++ ys) ≡ sum_by f xs + sum_by f ys
  sum_append [] ys = omega arith
  sum_append (x ∷ xs) ys = omega (arith, sum_append xs ys)

  -- `E` answers the same at all settings
  close_same : (σ τ : Settings) → f (says_of close σ) ≡ f (says_of close τ)
  unfolding answer_of
  close_same σ τ = refl

  -- passes that begin where they end cost the same each
  passes_fixed : (does : Settings → List Performed) (exit : Settings → Settings) (n : ℕ) (σ : Settings) → exit σ ≡ σ
      → sum_by f (passes n does exit σ) ≡ n * (sum_by f (does σ) + f (says_of close σ))
  passes_fixed does exit zero σ e = omega arith
  passes_fixed does exit (suc n) σ e =
      let rest : sum_by f (passes n does exit (exit σ)) ≡ n * (sum_by f (does σ) + f (says_of close σ)) =
      ap (λ (τ : Settings). sum_by f (passes n does exit τ)) e ∙ passes_fixed does exit n σ e in
      omega (
        arith,
        sum_append (does σ) (says_of close (exit σ) ∷ passes n does exit (exit σ)),
        close_same (exit σ) σ,
      )

  pub price_is : (b : Block) → Counted b → (σ : Settings) → sum_by f (unrolled b σ) ≡ price_of f b σ
  price_is stop h σ = refl
  price_is (one a b) h σ = ap (λ (n : ℕ). f (says_of (act a) σ) + n) (price_is b h (sets_of a σ))
  price_is (loop zero z body b) h σ = absurd (omega (arith, h.0))
  price_is (loop (suc n) z body b) h σ =
      let does = unrolled body in
      let exit = exit_of body in
      let τ = leaves_of body σ in
      let left : exit σ ≡ τ = exit_leaves body h.1.0 σ in
      let still : exit (exit σ) ≡ exit σ =
      ap exit left ∙ exit_leaves body h.1.0 τ ∙ leaves_twice body σ ∙ sym left in
      let later : sum_by f (passes n does exit (exit σ)) ≡ n * (price_of f body τ + f (says_of close σ)) =
      passes_fixed does exit n (exit σ) still
      ∙ ap (λ (x : Settings). n * (sum_by f (does x) + f (says_of close x))) left
      ∙ ap (λ (x : ℕ). n * (x + f (says_of close τ))) (price_is body h.1.0 τ)
      ∙ ap (λ (x : ℕ). n * (price_of f body τ + x)) (close_same τ σ) in
      let rest : sum_by f (unrolled b (times (suc n) exit σ)) ≡ price_of f b τ =
      ap (λ (x : Settings). sum_by f (unrolled b x)) (times_exit body (suc n) h.0 h.1.0 σ) ∙ price_is b h.1.1 τ in
      omega (
        arith,
        sum_append (passes (suc n) does exit σ) (unrolled b (times (suc n) exit σ)),
        sum_append (does σ) (says_of close (exit σ) ∷ passes n does exit (exit σ)),
        price_is body h.1.0 σ,
        close_same (exit σ) σ,
      )
