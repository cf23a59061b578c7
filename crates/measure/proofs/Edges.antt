-- The blank edge of a text (S15): how wide it can be, when there is none, and that a tilde pair at the end leaves it.
use Prim.Native.Nat.{ℕ, ◌+◌, ◌≤◌, min}
use mathlib.Core.Path.{◌≡◌, refl, ap, ◌∙◌}
use mathlib.Core.Bool.{true}
use mathlib.Core.List.{List, [], ◌∷◌, ◌++◌}
use native.Mathlib.Omega.{arith}
use borrow.Author.Tests.{le-leb}
use Rattle.params.specs.Bytes.{tilde}
use Rattle.measure.specs.Width.{measured, with_byte, with_all, measured_of, widths_in, widths_of, widest, counted_of, fits_of}
use Rattle.measure.specs.Edge.{Edged}
use Rattle.measure.specs.declared.width.Measured.{Measured}
use Rattle.measure.proofs.Nexts.{at_letter, at_tilde, at_graphic}
use Rattle.measure.proofs.Columns.{text_fair, with_last}

pub edged : (s : List ℕ) → Edged (widths_of s)
edged s =
    let m = measured_of s in
    let e = (text_fair s).edge in
    let q = (text_fair s).part in
    record { within = omega arith; edge = omega arith; unlit = λ h. omega arith; empty = λ h. omega arith }

-- counting stops for both alike
counted_edge : (whole lit : ℕ) → whole ≤ lit + 3 → min whole widest ≤ min lit widest + 3
counted_edge whole lit h = omega arith

pub counted_edged : (s : List ℕ) → Edged (counted_of (widths_of s))
counted_edged s =
    let w = widths_of s in
    let e = edged s in
    let a = e.within in
    record {
      within = omega (arith, a);
      edge = counted_edge w.whole w.lit e.edge;
      unlit = λ h. let z = e.unlit (omega (arith, h)) in omega (arith, z);
      empty = λ h. let z = e.empty (omega (arith, h)) in omega (arith, z);
    }

-- what fitted by the whole width fits
pub fitted_fits : (s : List ℕ) → (widths_of s).whole ≤ 96 → fits_of (widths_of s) ≡ true
fitted_fits s h = le-leb (widths_of s).lit 96 (omega (arith, h, (edged s).within))

-- bytes more at the end of a text
all_more : (m : Measured) (s t : List ℕ) → with_all m (s ++ t) ≡ with_all (with_all m s) t
all_more m [] t = refl
all_more m (x ∷ s) t = all_more (with_byte m x) s t

end_more : (s : List ℕ) (x : ℕ) → measured_of (s ++ x ∷ []) ≡ with_byte (measured_of s) x
end_more s x = all_more _ s (x ∷ [])

-- the byte before the end of a text is its last one
pub last_is : (s : List ℕ) (x : ℕ) → (measured_of (s ++ x ∷ [])).last ≡ x
last_is s x = ap (λ (n : Measured). n.last) (end_more s x) ∙ with_last (measured_of s) x

module _ (s : List ℕ) (no_tilde : (measured_of s).last ≡ tilde → ⊥) where
  -- a text that ends in a graphic byte has no blank edge; the byte before that is no tilde, as L6 says
  pub graphic_equal : (x : ℕ) → 0x80 ≤ x → (widths_of (s ++ x ∷ [])).lit ≡ (widths_of (s ++ x ∷ [])).whole
  graphic_equal x h =
      let e = end_more s x ∙ at_graphic (measured_of s) x no_tilde (λ k. omega arith) h in
      let z : (measured_of (s ++ x ∷ [])).edge ≡ 0 = ap (λ (n : Measured). n.edge) e in
      omega arith

  -- a tilde pair at the end changes neither width
  pub pair_nothing : (letter : ℕ) → widths_of (s ++ tilde ∷ letter ∷ []) ≡ widths_of s
  pair_nothing letter =
      let m = measured_of s in
      let e : with_byte m tilde ≡ measured m.font tilde m.whole m.edge = at_tilde m tilde no_tilde refl in
      ap widths_in (all_more _ s (tilde ∷ letter ∷ []))
      ∙ ap (λ (n : Measured). widths_in (with_byte n letter)) e
      ∙ ap widths_in (at_letter (measured m.font tilde m.whole m.edge) letter refl)
