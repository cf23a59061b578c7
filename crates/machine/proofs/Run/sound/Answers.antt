-- `sound` asks the settings, then by rest, or by room and place and loop.
use mathlib.Core.Path.{sym, ap, ◌∙◌}
use Rattle.judge.specs.declared.Standing.{Standing}
use Rattle.machine.specs.Sound.{held_of}
use Rattle.std.proofs.Common.{Option}
use Rattle.machine.proofs.Sounds.{unset, resting, unfilled, running}
use borrow.Author.Rules.{rules}
use Rattle.machine.proofs.Run.sound.Goals as goal

pub returns-then-not-sound : goal.returns-then-not-sound
returns-then-not-sound c =
    let a = c.args in
    sym (unset a.room.now a.self (sym c.sound.ensures ∙ c.if-not-sound.true))

pub returns-then-self-eq0 : goal.returns-then-self-eq0
returns-then-self-eq0 c =
    let a = c.args in
    let set = sym c.sound.ensures ∙ c.if-not-sound.false in
    c.rests.ensures ∙ sym (resting a.room.now a.self set (search rules))

pub returns-then-not-filled : goal.returns-then-not-filled
returns-then-not-filled c =
    let a = c.args in
    let set = sym c.sound.ensures ∙ c.if-not-sound.false in
    sym (unfilled a.room.now a.self set c.if-self-eq0.false (sym c.filled.ensures ∙ c.if-not-filled.true))

pub returns-in_default : goal.returns-in_default
returns-in_default c =
    let a = c.args in
    let set = sym c.sound.ensures ∙ c.if-not-sound.false in
    let full = sym c.filled.ensures ∙ c.if-not-filled.false in
    sym
    (running a.room.now a.self set c.if-self-eq0.false full
    ∙ ap (λ (x : Option Standing). held_of x a.self.inner) (sym c.stand.ensures ∙ c.in_default.is))

pub returns : goal.returns
returns c =
    let a = c.args in
    let set = sym c.sound.ensures ∙ c.if-not-sound.false in
    let full = sym c.filled.ensures ∙ c.if-not-filled.false in
    c.held.ensures
    ∙ ap (λ (x : Option Standing). held_of x a.self.inner) (sym c.in-Some.is ∙ c.stand.ensures)
    ∙ sym (running a.room.now a.self set c.if-self-eq0.false full)
