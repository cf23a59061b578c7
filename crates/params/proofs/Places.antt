-- What stands at a place of a body and what follows it: the laws by which the readers' loops go.
use Prim.Native.Nat.{ℕ, ◌+◌, ◌≤◌, ◌<◌}
use mathlib.Core.Path.{◌≡◌, refl, sym, ap, ◌∙◌}
use mathlib.Core.Bool.{Bool, true, false}
use mathlib.Core.List.{List, [], ◌∷◌}
use mathlib.Core.Logic.{dite}
use native.Mathlib.Omega.{arith}
use native.Mathlib.Decide.{dec_lt}
use borrow.Author.Tests.{eq-eqb, ne_eqb, eqb-true, eqb-false}
use lib.Dec.{eqb}
use lib.ListN.{length, get_or, drop, get_or-eq_default, drop_of_length-le}
use Rattle.basis.specs.Choice.{when}
use Rattle.basis.proofs.Lists.{drop_next}
use Rattle.params.specs.Bytes.{caret, param_of, first_of}

-- where a byte other than a caret is found, the place lies within the body
pub within_body : (b : List ℕ) (i : ℕ) → (get_or b i caret ≡ caret → ⊥) → i < length b
within_body b i h = dite (dec_lt i (length b)) (λ l. l) (λ l. absurd (h (get_or-eq_default b caret (omega arith))))

pub param_cons : (x : ℕ) (xs : List ℕ) → (x ≡ caret → ⊥) → param_of (x ∷ xs) ≡ x ∷ param_of xs
param_cons x xs h = ap (λ (t : Bool). when t [] (x ∷ param_of xs)) (ne_eqb x caret h)

-- the parameter that stands from a place on goes on by the byte there, and ends at a caret and behind the end
pub param_next : (b : List ℕ) (i : ℕ) → (get_or b i caret ≡ caret → ⊥) → param_of (drop i b) ≡ get_or b i caret ∷ param_of (drop (i + 1) b)
param_next b i h = ap param_of (drop_next b i caret (within_body b i h)) ∙ param_cons (get_or b i caret) (drop (i + 1) b) h

pub param_end : (b : List ℕ) (i : ℕ) → get_or b i caret ≡ caret → param_of (drop i b) ≡ []
param_end b i h =
    dite (dec_lt i (length b))
    (λ (l : i < length b). ap param_of (drop_next b i caret l) ∙ ap (λ (t : Bool). when t [] (get_or b i caret ∷ param_of (drop (i + 1) b))) (eq-eqb (get_or b i caret) caret h))
    (λ l. let k : length b ≤ i = omega arith in ap param_of (drop_of_length-le b k))

pub param_first : (b : List ℕ) (i : ℕ) → first_of (param_of (drop i b)) ≡ get_or b i caret
param_first b i = go (eqb (get_or b i caret) caret) refl
  where
    go : (t : Bool) → eqb (get_or b i caret) caret ≡ t → first_of (param_of (drop i b)) ≡ get_or b i caret
    go true e = let h = eqb-true (get_or b i caret) caret e in ap first_of (param_end b i h) ∙ sym h
    go false e = ap first_of (param_next b i (eqb-false (get_or b i caret) caret e))
