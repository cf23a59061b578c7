-- `held` adds up: what was counted and what is left to count make the whole.
use Rattle.collect.specs.Slots.{held_of}
use lib.ListN.{drop}
use Prim.Native.Nat.{◌+◌, ◌≤◌}
use mathlib.Core.Path.{◌≡◌}
use Rattle.collect.proofs.sound.held.Given as goal

abbrev pub invariant-loop-len : goal.invariant-loop-len
invariant-loop-len l = (l.n ≤ l.len-index) × (l.n + held_of (drop l.len-index l.fn.lens) ≡ held_of l.fn.lens)
