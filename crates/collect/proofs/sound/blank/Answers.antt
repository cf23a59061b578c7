-- `blank` finds lengths and room to be zeros, which is what the slots come to where nothing is collected.
use mathlib.Core.Bool.{Bool}
use mathlib.Core.Path.{◌≡◌, sym, ap, ◌∙◌}
use native.Mathlib.Omega.{arith}
use Prim.Native.Nat.{◌*◌}
use lib.ListN.{length}
use borrow.Author.Rules.{rules}
use Rattle.basis.specs.Choice.{◌and◌}
use Rattle.room.specs.Room.{zeros_of}
use Rattle.collect.proofs.Turns.{blank_slots}
use Rattle.collect.proofs.sound.blank.Goals as goal

pub returns-then-clean : goal.returns-then-clean
returns-then-clean c =
    let a = c.args in
    let lens : length a.lens ≡ 6 = search rules in
    let room : length a.room.now ≡ 84 = search rules in
    let size : length a.room.now ≡ 14 * length a.lens = omega arith in
    c.clean-then-clean.ensures
    ∙ sym (blank_slots 0 a.lens a.room.now size ∙ ap (λ (t : Bool). t and zeros_of a.room.now) (sym c.clean.ensures ∙ c.if-clean.true))

pub returns-else-clean : goal.returns-else-clean
returns-else-clean c =
    let a = c.args in
    let lens : length a.lens ≡ 6 = search rules in
    let room : length a.room.now ≡ 84 = search rules in
    let size : length a.room.now ≡ 14 * length a.lens = omega arith in
    c.if-clean.false ∙ sym (blank_slots 0 a.lens a.room.now size ∙ ap (λ (t : Bool). t and zeros_of a.room.now) (sym c.clean.ensures ∙ c.if-clean.false))
