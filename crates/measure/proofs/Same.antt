-- The whole width of any bytes is the width that they had in version 1.0.
use Prim.Native.Nat.{ℕ, ◌+◌}
use mathlib.Core.Path.{◌≡◌, refl, ap, ◌∙◌}
use mathlib.Core.Bool.{Bool, true, false}
use mathlib.Core.List.{List, [], ◌∷◌}
use native.Mathlib.Omega.{arith}
use lib.Dec.{eqb, leb}
use Rattle.basis.specs.Choice.{when}
use Rattle.params.specs.Bytes.{tilde}
use Rattle.measure.specs.Width.{font, font_of, measured, with_byte, with_all, widths_of}
use Rattle.measure.specs.Before.{font_columns, columns_before, each_before, width_from, width_before}
use Rattle.measure.specs.declared.fonts.Font.{Font}
use Rattle.measure.specs.declared.width.Measured.{Measured}
use Rattle.measure.proofs.Columns.{with_last, with_by}

-- a font's columns
either : (t : Bool) (f g : Font) (a b : ℕ) → f.columns ≡ a → g.columns ≡ b → (when t f g).columns ≡ when t a b
either true f g a b h k = h
either false f g a b h k = k

font_columns_lem : (x : ℕ) → (font_of x).columns ≡ font_columns x
font_columns_lem x =
    either (eqb x 0x44) (font 6 1) _ 6 _ refl
    (either (eqb x 0x64) (font 7 2) _ 7 _ refl
    (either (eqb x 0x42) (font 8 2) _ 8 _ refl
    (either (eqb x 0x62) (font 9 3) _ 9 _ refl (either (eqb x 0x43) (font 5 1) (font 6 2) 5 6 refl refl))))

-- one byte more
module _ (m : Measured) (x : ℕ) where
  with_whole : (with_byte m x).whole ≡ m.whole + columns_before m.font.columns m.last x
  with_whole = go (eqb m.last tilde) (eqb x tilde) (leb 0x80 x)
    where
      go : (t u v : Bool) → (with_by t u v m x).whole ≡ m.whole + when t 0 (when u 0 (when v 1 m.font.columns))
      go true u v = omega arith
      go false true v = omega arith
      go false false true = refl
      go false false false = refl

  with_each : (with_byte m x).font.columns ≡ each_before m.font.columns m.last x
  with_each = go (eqb m.last tilde) (eqb x tilde) (leb 0x80 x)
    where
      go : (t u v : Bool) → (with_by t u v m x).font.columns ≡ when t (when (eqb x 0x47) m.font.columns (font_columns x)) m.font.columns
      go true u v = either (eqb x 0x47) m.font (font_of x) _ _ refl (font_columns_lem x)
      go false true v = refl
      go false false true = refl
      go false false false = refl

all_whole : (m : Measured) (s : List ℕ) → (with_all m s).whole ≡ m.whole + width_from m.font.columns m.last s
all_whole m [] = omega arith
all_whole m (x ∷ s) =
    let n = with_byte m x in
    let e : width_from n.font.columns n.last s ≡ width_from (each_before m.font.columns m.last x) x s =
    ap (λ (k : ℕ). width_from k n.last s) (with_each m x) ∙ ap (λ (k : ℕ). width_from (each_before m.font.columns m.last x) k s) (with_last m x) in
    omega (arith, all_whole n s, with_whole m x, e)

pub whole_before : (s : List ℕ) → (widths_of s).whole ≡ width_before s
whole_before s = omega (arith, all_whole (measured (font_of 0x44) 0 0 0) s)
