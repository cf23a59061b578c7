use borrow.Author.Rules.{rules}
use Rattle.collect.proofs.Turns.{slot_wrong, slot_clean, slots_past}
use lib.ListN.{length}
use native.Mathlib.Omega.{arith}
use mathlib.Core.Path.{◌≡◌, sym, ◌∙◌}
use Rattle.collect.proofs.sound.ruled.Goals as goal
use Rattle.collect.proofs.sound.ruled.Goals.{then-rule, else-rule}

pub returns-then-not-unused : goal.returns-then-not-unused
returns-then-not-unused c =
    let a = c.args in
    let l = c.loop-i in
    let s : length a.lens ≡ 6 = search rules in
    elim c.if-rule.branch [
      | then-rule w ↦
          sym (slot_clean a.total a.lens a.room.now l.i (omega arith) _ (sym c.rule.ensures ∙ w.if-rule.true) (sym w.unused.ensures ∙ sym w.value-is ∙ c.if-not-unused.true)) ∙ l.invariant
      | else-rule w ↦ sym (slot_wrong a.total a.lens a.room.now l.i (omega arith) (sym c.rule.ensures ∙ w.if-rule.false)) ∙ l.invariant
    ]

pub loop-i-preserved : goal.loop-i-preserved
loop-i-preserved c =
    let a = c.args in
    let l = c.loop-i in
    let s : length a.lens ≡ 6 = search rules in
    elim c.if-rule.branch [
      | then-rule w ↦
          sym (slot_clean a.total a.lens a.room.now l.i (omega arith) _ (sym c.rule.ensures ∙ w.if-rule.true) (sym w.unused.ensures ∙ sym w.value-is ∙ c.if-not-unused.false)) ∙ l.invariant
      | else-rule w ↦ cc
    ]

pub returns : goal.returns
returns c =
    let a = c.args in
    let l = c.loop-i in
    let s : length a.lens ≡ 6 = search rules in
    sym (slots_past a.total a.lens a.room.now l.i (omega arith)) ∙ l.invariant
