-- `params::text::read_text` meets its contract. The invariant: the text from the place on reads as the whole does. The measure is what is
-- left of the body.
use Prim.Native.Nat.{◌-◌}
use mathlib.Core.Path.{◌≡◌}
use lib.ListN.{length, drop}
use Rattle.params.specs.Bytes.{param_of}
use Rattle.params.specs.Text.{text_of}
use Rattle.params.proofs.text.read_text.Given as goal

abbrev pub invariant-loop-from : goal.invariant-loop-from
invariant-loop-from l = text_of 0 0 l.at (param_of (drop l.at l.body)) ≡ text_of 0 0 l.from (param_of (drop l.from l.body))

abbrev pub decreases-loop-from : goal.decreases-loop-from
decreases-loop-from l = length l.body - l.at
