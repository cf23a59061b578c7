-- How far a text is counted while it is measured: on by the widest blank edge, so that both widths can be counted to 1,000.
use Rattle.std.specs.Prelude.{ℕ, min}
use Rattle.measure.specs.Width.{measured}
use Rattle.measure.specs.declared.width.Measured.{Measured}

abbrev pub most : ℕ
most = 1003

abbrev pub topped_of : Measured → Measured
topped_of m = measured m.font m.last (min m.whole most) m.edge
