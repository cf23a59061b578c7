-- `sound` tests part after part; the first that fails decides.
use Prim.Native.Nat.{ℕ}
use mathlib.Core.Path.{◌≡◌, sym, ap, ◌∙◌}
use native.Mathlib.Omega.{arith}
use Rattle.std.proofs.lemmas.Grind.{common_steps}
use Rattle.basis.proofs.Tests.{tests}
use Rattle.collect.specs.Slots.{slots_of}
use Rattle.collect.specs.Sound.{sound_of}
use Rattle.collect.proofs.Slots.sound.Goals as goal

pub returns-then-id-eq0 : goal.returns-then-id-eq0
unfolding sound_of
returns-then-id-eq0 c =
    let a = c.args in
    let none : a.self.total ≡ 0 = c.if-total-eq0.true in
    search (tests, c.blank.ensures ∙ ap (λ (t : ℕ). slots_of t 0 a.self.lens a.room.now) (sym none))

pub returns-else-id-eq0 : goal.returns-else-id-eq0
unfolding sound_of
returns-else-id-eq0 c = search tests

pub returns-then-contains : goal.returns-then-contains
unfolding sound_of
returns-then-contains c = grind (arith, common_steps)

pub returns-else-contains : goal.returns-else-contains
unfolding sound_of
returns-else-contains c = grind (arith, common_steps)
