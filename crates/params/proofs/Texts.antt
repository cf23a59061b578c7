-- Laws of a text: its end, and one byte more of it.
use Prim.Native.Nat.{ℕ, zero, suc, ◌+◌}
use mathlib.Core.Path.{◌≡◌, refl, sym, ap, ◌∙◌}
use mathlib.Core.Bool.{Bool}
use mathlib.Core.List.{List}
use native.Mathlib.Omega.{arith}
use borrow.Author.Tests.{eq-eqb, ne_eqb}
use lib.Dec.{eqb}
use lib.ListN.{get_or, drop}
use Rattle.basis.specs.Choice.{when}
use Rattle.params.specs.Bytes.{caret, param_of, first_of}
use Rattle.params.specs.Text.{wrong_of, text_of}
use Rattle.params.specs.Pieces.{named}
use Rattle.refusal.specs.declared.Refusal.{Refusal}
use Rattle.refusal.specs.Refusal.{fault, refusal_of}
use Rattle.std.proofs.Common.{Err, Some, None}
use Rattle.params.proofs.Places.{param_next, param_first}

-- one byte of a text: x, with the fault w
module _ (b : List ℕ) (q p i x w : ℕ) (ex : x ≡ get_or b i caret) (h : x ≡ caret → ⊥) (ew : w ≡ wrong_of q p x (get_or b (i + 1) caret)) where
  text_step : text_of q p i (param_of (drop i b)) ≡ when (eqb w 0) (text_of p x (i + 1) (param_of (drop (i + 1) b))) (Err (fault w i))
  text_step =
      let g = get_or b i caret in
      let par = param_of (drop (i + 1) b) in
      let same : wrong_of q p g (first_of par) ≡ w =
      ap (λ (f : ℕ). wrong_of q p g f) (param_first b (i + 1)) ∙ ap (λ (k : ℕ). wrong_of q p k (get_or b (i + 1) caret)) (sym ex) ∙ sym ew in
      ap (text_of q p i) (param_next b i (λ k. h (ex ∙ k)))
      ∙ ap (λ (v : ℕ). when (eqb v 0) (text_of p g (i + 1) par) (Err (fault v i))) same
      ∙ ap (λ (k : ℕ). when (eqb w 0) (text_of p k (i + 1) par) (Err (fault w i))) (sym ex)

  pub text_bad : (w ≡ 0 → ⊥) → Err (fault w i) ≡ text_of q p i (param_of (drop i b))
  text_bad n = sym (text_step ∙ ap (λ (t : Bool). when t (text_of p x (i + 1) (param_of (drop (i + 1) b))) (Err (fault w i))) (ne_eqb w 0 n))

  pub text_next : w ≡ 0 → text_of q p i (param_of (drop i b)) ≡ text_of p x (i + 1) (param_of (drop (i + 1) b))
  text_next n = text_step ∙ ap (λ (t : Bool). when t (text_of p x (i + 1) (param_of (drop (i + 1) b))) (Err (fault w i))) (eq-eqb w 0 n)

-- what a number's name says of the number
pub named_some : (w : ℕ) (e : Refusal) → named w ≡ Some e → (w ≡ 0 → ⊥) × (refusal_of w ≡ e)
named_some zero e h = let z : ◌≡◌ {A = ℕ} 0 1 = cc in absurd (omega arith)
named_some (suc w) e h = (λ z. omega arith, cc)

pub named_none : (w : ℕ) → named w ≡ None → w ≡ 0
named_none zero h = refl
named_none (suc w) h = let z : ◌≡◌ {A = ℕ} 0 1 = cc in absurd (omega arith)
