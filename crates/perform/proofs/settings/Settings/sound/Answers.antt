-- `sound` tests setting after setting; the first that is out of range decides.
use Prim.Native.Nat.{◌≤◌}
use native.Mathlib.Omega.{arith}
use borrow.Author.Rules.{rules}
use Rattle.std.proofs.lemmas.Grind.{common_steps}
use Rattle.perform.specs.Settings.{sound_of}
use Rattle.perform.proofs.settings.Settings.sound.Goals as goal

pub returns-then-self-eq0 : goal.returns-then-self-eq0
unfolding sound_of
returns-then-self-eq0 c = let d : c.args.self.dim ≤ 255 = search rules in grind (arith, common_steps)

pub returns-else-self-eq0 : goal.returns-else-self-eq0
unfolding sound_of
returns-else-self-eq0 c = let d : c.args.self.dim ≤ 255 = search rules in grind (arith, common_steps)

pub returns-else-self-ge1 : goal.returns-else-self-ge1
unfolding sound_of
returns-else-self-ge1 c = let d : c.args.self.dim ≤ 255 = search rules in grind (arith, common_steps)
