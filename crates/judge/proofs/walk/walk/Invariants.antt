-- `judge::walk::walk` meets its contract. The invariant: the verdict from here on is that on the whole; and the place is still looked
-- for, or was met before. The measure is what is left of the body.
use Prim.Native.Nat.{◌-◌}
use mathlib.Core.Path.{◌≡◌}
use lib.ListN.{length}
use Rattle.loops.specs.Token.{tokens_of}
use Rattle.judge.specs.Verdict.{commands_of}
use Rattle.judge.proofs.Turns.{from, Looked}
use Rattle.judge.proofs.walk.walk.Given as goal

abbrev pub invariant-loop-at : goal.invariant-loop-at
invariant-loop-at l = (from (tokens_of l.body l.at) l.at l.flow ≡ commands_of l.body) × Looked l.body l.place l.at l.flow l.found

abbrev pub decreases-loop-at : goal.decreases-loop-at
decreases-loop-at l = length l.body - l.at
