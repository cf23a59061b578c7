use Prim.Native.Nat.{ℕ}
use mathlib.Core.Path.{◌≡◌, ap, ◌∙◌}
use native.Mathlib.Omega.{arith}
use borrow.Author.Rules.{rules}
use Rattle.basis.specs.Bytes.{laid}
use Rattle.packet.specs.Wire.{total_of, packets_of}
use Rattle.packet.proofs.Writing.{never_refused, next_packet, transmission_refused, transmission_wrote}
use Rattle.transmission.proofs.write.write_all.Goals as goal

pub returns-then-out-size : goal.returns-then-out-size
returns-then-out-size c =
    let a = c.args in
    transmission_refused a.mid a.id a.body.now a.out.now (search rules) (search rules) (search rules) (search rules)

pub loop-position-init : goal.loop-position-init
unfolding laid packets_of
loop-position-init c = search rules

pub returns-in_err-write_packet : goal.returns-in_err-write_packet
returns-in_err-write_packet c =
    let a = c.args in
    let l = c.loop-position in
    absurd
    (never_refused a.mid a.id a.body.now a.out.now (search rules) (search rules) (search rules) l.out c.write_packet.new.out l.position c.requires
    (search rules)
    (search rules)
    l.invariant.0
    _
    c.in_err-write_packet.ensures)

pub loop-position-preserved : goal.loop-position-preserved
loop-position-preserved c =
    let a = c.args in
    let l = c.loop-position in
    next_packet a.mid a.id a.body.now a.out.now (search rules) (search rules) (search rules) l.out c.write_packet.new.out l.position c.requires
    (search rules)
    (search rules)
    l.invariant.0
    c.write_packet.result
    c.write_packet.ensures

pub returns : goal.returns
returns c =
    let a = c.args in
    let l = c.loop-position in
    let same : c.in_ok-total.total ≡ total_of a.body.now = search rules in
    let all : l.position ≡ total_of a.body.now = omega arith in
    transmission_wrote a.mid a.id a.body.now a.out.now (search rules) (search rules) (search rules) _ l.out same (search rules)
    (l.invariant.0 ∙ ap (λ (n : ℕ). laid (packets_of a.mid a.id a.body.now n) a.out.now) all)
