-- `ruled` tests slot after slot: what is left of them decides.
use Rattle.collect.specs.Slots.{slots_of}
use lib.ListN.{drop}
use Prim.Native.Nat.{◌*◌}
use mathlib.Core.Path.{◌≡◌}
use Rattle.collect.proofs.sound.ruled.Given as goal

abbrev pub invariant-loop-i : goal.invariant-loop-i
invariant-loop-i l = slots_of l.total l.i (drop l.i l.lens) (drop (14 * l.i) l.room) ≡ slots_of l.total 0 l.lens l.room
