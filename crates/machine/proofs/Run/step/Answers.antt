-- `step` refuses an unsound run, rests when Ready, and goes on by the command that was found when Busy.
use mathlib.Core.Path.{sym, ap, ◌∙◌}
use Rattle.program.specs.Command.{read_of}
use Rattle.judge.specs.Standing.{stand_of}
use Rattle.judge.specs.declared.Standing.{Standing}
use Rattle.std.proofs.Common.{Option}
use Rattle.judge.proofs.Turns.{found_some}
use Rattle.machine.specs.Sound.{body_of, held_of}
use Rattle.machine.proofs.Keeps.{step_ready, step_busy, step_unsound}
use Rattle.machine.proofs.Sounds.{unset, resting, unfilled, running, missing_unheld}
use Rattle.machine.proofs.Run.step.Goals as goal

pub returns-then-not-sound : goal.returns-then-not-sound
returns-then-not-sound c =
    let a = c.args in
    c.unsound.ensures
    ∙ sym (step_unsound a.room.now a.self (unset a.room.now a.self (sym c.sound.ensures ∙ c.if-not-sound.true)))

pub returns-then-not-rests : goal.returns-then-not-rests
returns-then-not-rests c =
    let a = c.args in
    let set = sym c.sound.ensures ∙ c.if-not-sound.false in
    let rests = sym c.rests.ensures ∙ c.if-not-rests.true in
    c.unsound-then-not-rests.ensures
    ∙ sym (step_unsound a.room.now a.self (resting a.room.now a.self set c.if-self-eq0.true ∙ rests))

pub returns-then-self-eq0 : goal.returns-then-self-eq0
returns-then-self-eq0 c =
    let a = c.args in
    let set = sym c.sound.ensures ∙ c.if-not-sound.false in
    let none = c.if-self-eq0.true in
    let rests = sym c.rests.ensures ∙ c.if-not-rests.false in
    sym (step_ready a.room.now a.self (resting a.room.now a.self set none ∙ rests) none)

pub returns-then-not-filled : goal.returns-then-not-filled
returns-then-not-filled c =
    let a = c.args in
    let set = sym c.sound.ensures ∙ c.if-not-sound.false in
    let bare = sym c.filled.ensures ∙ c.if-not-filled.true in
    c.unsound-then-not-filled.ensures
    ∙ sym (step_unsound a.room.now a.self (unfilled a.room.now a.self set c.if-self-eq0.false bare))

pub returns-then-not-held : goal.returns-then-not-held
returns-then-not-held c =
    let a = c.args in
    let set = sym c.sound.ensures ∙ c.if-not-sound.false in
    let busy = c.if-self-eq0.false in
    let full = sym c.filled.ensures ∙ c.if-not-filled.false in
    let found = found_some (stand_of (body_of a.room.now a.self) a.self.place) (read_of (body_of a.room.now a.self) a.self.place) _ (sym c.find.ensures ∙ c.in-Some.is) in
    let held = ap (λ (x : Option Standing). held_of x a.self.inner) found.0 ∙ sym c.held.ensures ∙ c.if-not-held.true in
    c.unsound-then-not-held.ensures ∙ sym (step_unsound a.room.now a.self (running a.room.now a.self set busy full ∙ held))

pub returns-in_default : goal.returns-in_default
returns-in_default c =
    let a = c.args in
    let set = sym c.sound.ensures ∙ c.if-not-sound.false in
    let busy = c.if-self-eq0.false in
    let full = sym c.filled.ensures ∙ c.if-not-filled.false in
    let none = sym c.find.ensures ∙ c.in_default.is in
    let held = missing_unheld (body_of a.room.now a.self) a.self.place a.self.inner none in
    c.unsound-in_default.ensures ∙ sym (step_unsound a.room.now a.self (running a.room.now a.self set busy full ∙ held))

pub returns : goal.returns
returns c =
    let a = c.args in
    let set = sym c.sound.ensures ∙ c.if-not-sound.false in
    let busy = c.if-self-eq0.false in
    let full = sym c.filled.ensures ∙ c.if-not-filled.false in
    let found = found_some (stand_of (body_of a.room.now a.self) a.self.place) (read_of (body_of a.room.now a.self) a.self.place) _ (sym c.find.ensures ∙ c.in-Some.is) in
    let held = ap (λ (x : Option Standing). held_of x a.self.inner) found.0 ∙ sym c.held.ensures ∙ c.if-not-held.false in
    c.run.ensures ∙ sym (step_busy a.room.now a.self (running a.room.now a.self set busy full ∙ held) busy)
