-- `yd_receive` takes the record out of the image, and puts the next one back; a refusal leaves image and answer.
use Prim.Native.Nat.{ℕ}
use mathlib.Core.Path.{◌≡◌, ap, subst, ◌∙◌}
use mathlib.Core.List.{List, [], ◌∷◌}
use Rattle.packet.specs.Mid.{mid_row}
use Rattle.hear.specs.Hear.{told_of}
use Rattle.image.specs.Layout.{image_of, record_of}
use Rattle.sign.specs.Receive.{receive_of}
use Rattle.sign.specs.declared.Sign.{Sign}
use Rattle.sign.specs.declared.Received.{Received}
use Rattle.words.specs.Told.{answer_row, first_or, told_in}
use Rattle.words.specs.Says.{received_bytes}
use Rattle.cabi.specs.Calls.{receive_no, receive_image, receive_answer, kept_of}
use Rattle.cabi.proofs.Lays.{kept_yes, kept_no, answer_is, mid_is, went, loaded, ill_receives, forbidden_19, quiet_receive}
use Rattle.cabi.proofs.unit.yd_receive.Goals as goal
use Rattle.cabi.proofs.unit.yd_receive.Goals.{After-tell_received-told}

-- what the call comes to, once it has told, by the image that it leaves
ends : (c : After-tell_received-told) → (image' : List ℕ) → image' ≡ kept_of c.tell_received-told.result c.args.image.now (image_of c.receive-received.result.sign)
    → (c.tell_received-told.result ≡ receive_no c.args.image.now c.args.mid c.args.bytes.now c.args.answer.now)
    × ((image' ≡ receive_image c.args.image.now c.args.mid c.args.bytes.now c.args.answer.now)
    × (c.tell_received-told.new.answer ≡ receive_answer c.args.image.now c.args.mid c.args.bytes.now c.args.answer.now))
ends c image' kept =
    let a = c.args in
    let i = a.image.now in
    let s = (c.receive-received.result).sign in
    let y = receive_of (record_of i) a.mid a.bytes.now in
    let n = (told_of y.outcome).number in
    let told = c.tell_received-told.result in
    let room = c.if-answer-lt100.false in
    let held = loaded i c.in-Some.ensures in
    let e = c.receive-received.ensures ∙ ap (λ (x : Sign). receive_of x a.mid a.bytes.now) held.1 in
    let t = subst (λ (x : Received). (told ≡ first_or (answer_row 100 a.answer.now ∷ []) (told_of x.outcome).number) × (c.tell_received-told.new.answer ≡ told_in 100 (received_bytes x.outcome x.body) a.answer.now)) e (c.tell_received-told.ensures.result, c.tell_received-told.ensures.told) in
    let own : told ≡ n = t.0 ∙ answer_is 100 a.answer.now n room in
    went (mid_row a.mid ∷ answer_row 100 a.answer.now ∷ []) i a.answer.now n (received_bytes y.outcome y.body) (image_of y.sign) 100 held.0 room (ill_receives i a.mid a.bytes.now) (λ sound. mid_is a.mid 100 a.answer.now _ room (forbidden_19 i a.mid a.bytes.now sound)) t.0 t.1 image'
    (kept ∙ ap (λ (k : ℕ). kept_of k i (image_of s)) own ∙ ap (λ (x : Received). kept_of n i (image_of x.sign)) e)
    (quiet_receive y.outcome y.body)

pub returns-then-told-eq0 : goal.returns-then-told-eq0
returns-then-told-eq0 c =
    let i = c.args.image.now in
    let t = ends (goal.at.returns-then-told-eq0 c).After-tell_received-told _ (c.store.ensures ∙ kept_yes c.tell_received-told.result i (image_of c.receive-received.result.sign) c.if-told-eq0.true) in
    record { result = t.0; kept = t.1.0; told = t.1.1 }

pub returns-else-told-eq0 : goal.returns-else-told-eq0
returns-else-told-eq0 c =
    let i = c.args.image.now in
    let t = ends (goal.at.returns-else-told-eq0 c).After-tell_received-told _ (kept_no c.tell_received-told.result i (image_of c.receive-received.result.sign) c.if-told-eq0.false) in
    record { result = t.0; kept = t.1.0; told = t.1.1 }
