-- `pass` adds until a command of structure is added: what is left of the pass decides.
use Prim.Native.Nat.{◌-◌}
use mathlib.Core.Path.{◌≡◌}
use lib.ListN.{length}
use Rattle.reckon.specs.Reckon.{pass_of}
use Rattle.reckon.proofs.reckon.pass.Given as goal

abbrev pub invariant-loop-command : goal.invariant-loop-command
invariant-loop-command l = pass_of l.body l.at ≡ pass_of l.body l.initial.at

abbrev pub decreases-loop-command : goal.decreases-loop-command
decreases-loop-command l = length l.body - l.at.place
