-- `measure` meets its contract. The invariant: what is measured so far, with what is left, comes to the whole text measured, both
-- counted to the cap.
use Prim.Native.Nat.{◌≤◌}
use mathlib.Core.Path.{◌≡◌}
use lib.ListN.{drop}
use Rattle.measure.specs.Width.{with_all, measured_of}
use Rattle.measure.specs.Capped.{most, topped_of}
use Rattle.measure.proofs.Columns.{Fair}
use Rattle.measure.proofs.width.measure.Given as goal

abbrev pub invariant-loop-x : goal.invariant-loop-x
invariant-loop-x l = Fair l.got × (l.got.whole ≤ most) × (topped_of (with_all l.got (drop l.x-index l.text)) ≡ topped_of (measured_of l.text))
