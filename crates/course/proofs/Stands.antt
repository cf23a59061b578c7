-- A body's list of commands is what stands in it: command behind command, from its first byte to its end.
use Prim.Native.Nat.{ℕ, zero, suc, ◌+◌, ◌≤◌, ◌<◌}
use mathlib.Core.List.{List, [], ◌∷◌, map}
use mathlib.Core.Bool.{Bool, true, false}
use mathlib.Core.Path.{◌≡◌, refl, sym, ap, ◌∙◌}
use native.Mathlib.Omega.{arith}
use lib.Dec.{ltb}
use lib.ListN.{length}
use borrow.Author.Tests.{ltb-true, ltb-false}
use Rattle.basis.specs.Choice.{when}
use Rattle.loops.specs.Token.{Part, Tok, good, bad, size_of, chain, tokens}
use Rattle.course.proofs.Runs.{At}

module _ (g : ℕ → Tok) (len : ℕ) (two : (p : ℕ) (c : Part) → g p ≡ good c → 2 ≤ size_of c) where
  pub at_tokens : (fuel p : ℕ) (cs : List Part) → len ≤ p + fuel → tokens g len fuel p ≡ map good cs → At g len p cs
  at_tokens zero p [] enough e = omega arith
  at_tokens zero p (c ∷ cs) enough e = absurd (omega (arith, ap length e))
  at_tokens (suc fuel) p cs enough e = here (ltb p len) refl e (λ q ds. at_tokens fuel q ds)
    where
      split : (t : Tok) → g p ≡ t → (cs : List Part) → chain t (λ z. tokens g len fuel (p + z)) ≡ map good cs → p < len
          → ((q : ℕ) (ds : List Part) → len ≤ q + fuel → tokens g len fuel q ≡ map good ds → At g len q ds)
          → At g len p cs
      split (bad x) q1 [] w h ih = absurd (omega (arith, ap length w))
      split (bad x) q1 (d ∷ ds) w h ih = let z : ◌≡◌ {A = ℕ} 0 1 = cc in absurd (omega arith)
      split (good c) q1 [] w h ih = absurd (omega (arith, ap length w))
      split (good c) q1 (d ∷ ds) w h ih =
          let same : c ≡ d = cc in
          let rest : tokens g len fuel (p + size_of c) ≡ map good ds = cc in
          let here : g p ≡ good d = q1 ∙ ap good same in
          let behind : tokens g len fuel (p + size_of d) ≡ map good ds = ap (λ (x : Part). tokens g len fuel (p + size_of x)) (sym same) ∙ rest in
          (h, (here, ih (p + size_of d) ds (omega (arith, two p d here)) behind))

      none : (cs : List Part) → ◌≡◌ {A = List Tok} [] (map good cs) → len ≤ p → At g len p cs
      none [] w h = h
      none (c ∷ cs) w h = absurd (omega (arith, ap length w))

      here : (t : Bool) → ltb p len ≡ t → when t (chain (g p) (λ z. tokens g len fuel (p + z))) [] ≡ map good cs
          → ((q : ℕ) (ds : List Part) → len ≤ q + fuel → tokens g len fuel q ≡ map good ds → At g len q ds)
          → At g len p cs
      here true q w ih = split (g p) refl cs w (ltb-true p len q) ih
      here false q w ih = none cs w (ltb-false p len q)
