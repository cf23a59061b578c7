-- `yd_step` takes the record out of the image, and puts the next one back; a refusal leaves image and answer.
use Prim.Native.Nat.{ℕ}
use mathlib.Core.Path.{◌≡◌, ap, subst, ◌∙◌}
use mathlib.Core.List.{List, [], ◌∷◌}
use Rattle.machine.specs.Step.{told_of}
use Rattle.image.specs.Layout.{image_of, record_of}
use Rattle.sign.specs.Step.{step_of}
use Rattle.sign.specs.declared.Stepped.{Stepped}
use Rattle.words.specs.Words.{words_of}
use Rattle.words.specs.Told.{answer_row, first_or, told_in}
use Rattle.cabi.specs.Calls.{step_no, step_image, step_answer, kept_of}
use Rattle.cabi.proofs.Lays.{kept_yes, kept_no, answer_is, went, loaded, ill_steps, quiet_step}
use Rattle.cabi.proofs.unit.yd_step.Goals as goal
use Rattle.cabi.proofs.unit.yd_step.Goals.{After-tell_stepped-told}

-- what the call comes to, once it has told, by the image that it leaves
ends : (c : After-tell_stepped-told) → (image' : List ℕ) → image' ≡ kept_of c.tell_stepped-told.result c.args.image.now (image_of c.step-stepped.result.sign)
    → (c.tell_stepped-told.result ≡ step_no c.args.image.now c.args.answer.now)
    × ((image' ≡ step_image c.args.image.now c.args.answer.now) × (c.tell_stepped-told.new.answer ≡ step_answer c.args.image.now c.args.answer.now))
ends c image' kept =
    let a = c.args in
    let i = a.image.now in
    let s = (c.step-stepped.result).sign in
    let y = step_of (record_of i) in
    let n = (told_of y.answer).number in
    let told = c.tell_stepped-told.result in
    let room = c.if-answer-lt28.false in
    let held = loaded i c.in-Some.ensures in
    let e = c.step-stepped.ensures ∙ ap step_of held.1 in
    let t = subst (λ (x : Stepped). (told ≡ first_or (answer_row 28 a.answer.now ∷ []) (told_of x.answer).number) × (c.tell_stepped-told.new.answer ≡ told_in 28 (words_of (told_of x.answer).values) a.answer.now)) e (c.tell_stepped-told.ensures.result, c.tell_stepped-told.ensures.told) in
    let own : told ≡ n = t.0 ∙ answer_is 28 a.answer.now n room in
    went (answer_row 28 a.answer.now ∷ []) i a.answer.now n (words_of (told_of y.answer).values) (image_of y.sign) 28 held.0 room (ill_steps i) (λ sound. answer_is 28 a.answer.now _ room) t.0 t.1 image'
    (kept ∙ ap (λ (k : ℕ). kept_of k i (image_of s)) own ∙ ap (λ (x : Stepped). kept_of n i (image_of x.sign)) e)
    (quiet_step y.answer)

pub returns-then-told-eq0 : goal.returns-then-told-eq0
returns-then-told-eq0 c =
    let i = c.args.image.now in
    let t = ends (goal.at.returns-then-told-eq0 c).After-tell_stepped-told _ (c.store.ensures ∙ kept_yes c.tell_stepped-told.result i (image_of c.step-stepped.result.sign) c.if-told-eq0.true) in
    record { result = t.0; kept = t.1.0; told = t.1.1 }

pub returns-else-told-eq0 : goal.returns-else-told-eq0
returns-else-told-eq0 c =
    let i = c.args.image.now in
    let t = ends (goal.at.returns-else-told-eq0 c).After-tell_stepped-told _ (kept_no c.tell_stepped-told.result i (image_of c.step-stepped.result.sign) c.if-told-eq0.false) in
    record { result = t.0; kept = t.1.0; told = t.1.1 }
