-- `copy_body` copies what the room holds of a running body; a sound run's body lies within it.
use Rattle.std.proofs.Common.{◌≡◌, ℕ, List, ◌++◌, length, take, drop, sym, ap, ◌∙◌, arith, rules}
use lib.Seq.{take-length, length-take-le}
use Rattle.machine.specs.Sound.{body_of}
use Rattle.sign.proofs.Sounds.{body_fits}
use Rattle.sign.proofs.Tells.{short_tells, copy_tells}
use Rattle.sign.proofs.Sign.copy_body.Goals as goal

pub returns-then-out-len : goal.returns-then-out-len
returns-then-out-len c =
    let a = c.args in
    let e = sym c.sound.ensures ∙ c.if-not-sound.false in
    short_tells a.self a.out.now e (body_fits a.self e) c.if-out-len.true

pub shared_ref_as_front-copy_from_slice : goal.shared_ref_as_front-copy_from_slice
shared_ref_as_front-copy_from_slice c =
    let a = c.args in
    let e = sym c.sound.ensures ∙ c.if-not-sound.false in
    let l : length a.self.room ≡ 84 = search rules in
    omega (arith, body_fits a.self e)

pub slice_bounds-copy_from_slice-end-3 : goal.slice_bounds-copy_from_slice-end-3
slice_bounds-copy_from_slice-end-3 c =
    let a = c.args in
    let e = sym c.sound.ensures ∙ c.if-not-sound.false in
    sym (length-take-le a.self.run.len a.self.room (body_fits a.self e))

pub copy_from_slice-requires : goal.copy_from_slice-requires
copy_from_slice-requires c =
    let a = c.args in
    let e = sym c.sound.ensures ∙ c.if-not-sound.false in
    length-take-le a.self.run.len a.out.now c.if-out-len.false ∙ sym (length-take-le a.self.run.len a.self.room (body_fits a.self e))

pub returns : goal.returns
returns c =
    let a = c.args in
    let e = sym c.sound.ensures ∙ c.if-not-sound.false in
    let n = a.self.run.len in
    let body = body_of a.self.room a.self.run in
    let size : length body ≡ n = length-take-le n a.self.room (body_fits a.self e) in
    copy_tells a.self a.out.now e (body_fits a.self e) _ c.if-out-len.false
    (ap (λ (q : List ℕ). q ++ drop n a.out.now) (c.copy_from_slice.ensures.after ∙ sym (take-length body))
    ∙ ap (λ (m : ℕ). take (length body) body ++ drop m a.out.now) (sym size))
