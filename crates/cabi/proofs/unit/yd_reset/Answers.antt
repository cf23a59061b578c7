-- `yd_reset` writes the record after a reset of the one in the image.
use Prim.Native.Nat.{ℕ}
use mathlib.Core.List.{List}
use mathlib.Core.Path.{◌≡◌, ap, ◌∙◌}
use Rattle.hear.specs.Hear.{told_of}
use Rattle.image.specs.Layout.{image_of, record_of}
use Rattle.sign.specs.Reset.{cleared_of}
use Rattle.sign.specs.declared.Cleared.{Cleared}
use Rattle.cabi.specs.Calls.{reset_no, reset_image, kept_of}
use Rattle.cabi.proofs.Lays.{kept_yes, kept_no, alone_went, loaded, ill_resets}
use Rattle.cabi.proofs.unit.yd_reset.Goals as goal
use Rattle.cabi.proofs.unit.yd_reset.Goals.{After-tell_outcome-told}

-- what the call comes to, once it has told, by the image that it leaves
ends : (c : After-tell_outcome-told) → (image' : List ℕ) → image' ≡ kept_of c.tell_outcome-told.result c.args.image.now (image_of c.reset-cleared.result.sign)
    → (c.tell_outcome-told.result ≡ reset_no c.args.image.now) × (image' ≡ reset_image c.args.image.now)
ends c image' kept =
    let i = c.args.image.now in
    let x = c.reset-cleared.result in
    let y = cleared_of (record_of i) in
    let n = (told_of y.outcome).number in
    let held = loaded i c.in-Some.ensures in
    let e = c.reset-cleared.ensures ∙ ap cleared_of held.1 in
    let own : c.tell_outcome-told.result ≡ n = c.tell_outcome-told.ensures ∙ ap (λ (x : Cleared). (told_of x.outcome).number) e in
    let t = alone_went i n (image_of y.sign) held.0 (ill_resets i) image'
    (kept ∙ ap (λ (k : ℕ). kept_of k i (image_of x.sign)) own ∙ ap (λ (x : Cleared). kept_of n i (image_of x.sign)) e) in
    (own ∙ t.0, t.1)

pub returns-then-told-eq0 : goal.returns-then-told-eq0
returns-then-told-eq0 c =
    let i = c.args.image.now in
    let t = ends (goal.at.returns-then-told-eq0 c).After-tell_outcome-told _ (c.store.ensures ∙ kept_yes c.tell_outcome-told.result i (image_of c.reset-cleared.result.sign) c.if-told-eq0.true) in
    record { result = t.0; kept = t.1 }

pub returns-else-told-eq0 : goal.returns-else-told-eq0
returns-else-told-eq0 c =
    let i = c.args.image.now in
    let t = ends (goal.at.returns-else-told-eq0 c).After-tell_outcome-told _ (kept_no c.tell_outcome-told.result i (image_of c.reset-cleared.result.sign) c.if-told-eq0.false) in
    record { result = t.0; kept = t.1 }
