-- `differ` tests ID after ID: what is left of them decides.
use mathlib.Core.Path.{◌≡◌}
use lib.ListN.{take, drop}
use Rattle.completed.specs.Completed.{differ_of}
use Rattle.completed.proofs.sound.differ.Given as goal

abbrev pub invariant-loop-i : goal.invariant-loop-i
invariant-loop-i l = differ_of (drop l.i (take l.count l.ids)) ≡ differ_of (take l.count l.ids)
