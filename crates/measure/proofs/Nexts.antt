-- One byte more, by what it is: a letter behind a tilde, a tilde, a graphic byte, a character.
use Prim.Native.Nat.{ℕ, ◌+◌, ◌≤◌, ◌<◌, min}
use mathlib.Core.Path.{◌≡◌, sym, ap, ◌∙◌}
use native.Mathlib.Omega.{arith}
use lib.Dec.{eqb, leb}
use borrow.Author.Tests.{eq-eqb, ne_eqb, le-leb, lt-leb}
use Rattle.basis.specs.Choice.{when}
use Rattle.basis.proofs.Choices.{when_true, when_false}
use Rattle.params.specs.Bytes.{tilde}
use Rattle.measure.specs.Width.{switched_of, measured, with_byte}
use Rattle.measure.specs.Capped.{most, topped_of}
use Rattle.measure.specs.declared.fonts.Font.{Font}
use Rattle.measure.specs.declared.width.Measured.{Measured}

module _ (m : Measured) (x : ℕ) where
  pub at_letter : m.last ≡ tilde → with_byte m x ≡ measured (switched_of m.font x) x m.whole m.edge
  at_letter e = when_true (eqb m.last tilde) _ _ (eq-eqb m.last tilde e)

  module _ (e : m.last ≡ tilde → ⊥) where
    pub at_tilde : x ≡ tilde → with_byte m x ≡ measured m.font x m.whole m.edge
    at_tilde k = when_false (eqb m.last tilde) _ _ (ne_eqb m.last tilde e) ∙ when_true (eqb x tilde) _ _ (eq-eqb x tilde k)

    module _ (k : x ≡ tilde → ⊥) where
      at_shown : with_byte m x
          ≡ when (leb 0x80 x) (measured m.font x (m.whole + 1) 0) (measured m.font x (m.whole + m.font.columns) m.font.blank)
      at_shown = when_false (eqb m.last tilde) _ _ (ne_eqb m.last tilde e) ∙ when_false (eqb x tilde) _ _ (ne_eqb x tilde k)

      pub at_graphic : 0x80 ≤ x → with_byte m x ≡ measured m.font x (m.whole + 1) 0
      at_graphic l = at_shown ∙ when_true (leb 0x80 x) _ _ (le-leb 0x80 x l)

      pub at_character : x < 0x80 → with_byte m x ≡ measured m.font x (m.whole + m.font.columns) m.font.blank
      at_character l = at_shown ∙ when_false (leb 0x80 x) _ _ (lt-leb 0x80 x l)

  -- and counted to the cap
  module _ (h : m.whole ≤ most) where
    kept : (f : Font) → measured f x m.whole m.edge ≡ topped_of (measured f x m.whole m.edge)
    kept f = let a : m.whole ≡ min m.whole most = omega arith in ap (λ (n : ℕ). measured f x n m.edge) a

    pub by_letter : (f : Font) → m.last ≡ tilde → f ≡ switched_of m.font x → measured f x m.whole m.edge ≡ topped_of (with_byte m x)
    by_letter f e k = kept f ∙ ap (λ (g : Font). topped_of (measured g x m.whole m.edge)) k ∙ ap topped_of (sym (at_letter e))

    pub by_tilde : (m.last ≡ tilde → ⊥) → x ≡ tilde → measured m.font x m.whole m.edge ≡ topped_of (with_byte m x)
    by_tilde e k = kept m.font ∙ ap topped_of (sym (at_tilde e k))

  pub by_graphic : (whole : ℕ) → (m.last ≡ tilde → ⊥) → (x ≡ tilde → ⊥) → 0x80 ≤ x → whole ≡ min (m.whole + 1) most
      → measured m.font x whole 0
      ≡ topped_of (with_byte m x)
  by_graphic whole e k l w = ap (λ (n : ℕ). measured m.font x n 0) w ∙ ap topped_of (sym (at_graphic e k l))

  pub by_character : (whole : ℕ) → (m.last ≡ tilde → ⊥) → (x ≡ tilde → ⊥) → x < 0x80 → whole ≡ min (m.whole + m.font.columns) most
      → measured m.font x whole m.font.blank
      ≡ topped_of (with_byte m x)
  by_character whole e k l w = ap (λ (n : ℕ). measured m.font x n m.font.blank) w ∙ ap topped_of (sym (at_character e k l))
