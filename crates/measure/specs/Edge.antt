-- What holds of the two widths of any bytes, a text or not, counted to the cap or not (S15).
use Rattle.std.specs.Prelude.{◌+◌, ◌≤◌, ◌≡◌}
use Rattle.measure.specs.declared.width.Widths.{Widths}

-- the lit width is the whole one less 3 columns at most, and the one is 0 exactly if the other is
pub record Edged (w : Widths) : Type 0 where
  pub within : w.lit ≤ w.whole
  pub edge : w.whole ≤ w.lit + 3
  pub unlit : w.lit ≡ 0 → w.whole ≡ 0
  pub empty : w.whole ≡ 0 → w.lit ≡ 0
