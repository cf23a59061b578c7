-- `hear` goes by what was read, where the frame is sound.
use Prim.Native.Nat.{ℕ, ◌+◌, ◌-◌}
use mathlib.Core.Path.{◌≡◌, sym, ap, ◌∙◌}
use native.Mathlib.Omega.{arith}
use lib.ListN.{take, drop}
use Rattle.std.specs.Prelude.{Ok, Err}
use Rattle.reader.specs.declared.read.Packet.{Packet}
use Rattle.reader.specs.declared.read.Packet.TheVariants.{Query, Reset, Normal}
use Rattle.collect.specs.Slots.{collection_of}
use Rattle.hear.specs.Join.{left_of, join_by, stay_of, count_of}
use Rattle.hear.specs.declared.Heard.{Heard}
use Rattle.hear.proofs.Hears.{framed_collection, hears_as, unframed_hears}
use Rattle.hear.proofs.Packets.{normal_read, right_part}
use Rattle.hear.proofs.hearing.hear.Goals as goal

pub returns-then-not-framed : goal.returns-then-not-framed
returns-then-not-framed c =
    let a = c.args in
    ap (λ (h : Heard). left_of h a.room.now) c.stays.ensures ∙ sym (unframed_hears a.completed (collection_of a.slots a.room.now) a.len a.mid a.bytes.now (sym c.framed.ensures ∙ c.if-not-framed.true))

pub overflow_add-end : goal.overflow_add-end
overflow_add-end c =
    let a = c.args in
    let w = normal_read a.mid a.bytes.now c.in-Ok-Normal.id c.in-Ok-Normal.total c.in-Ok-Normal.position c.in-Ok-Normal.size (sym c.read_packet-read.ensures ∙ c.in-Ok-Normal.is ∙ ap (λ (p : Packet). Ok p) (rw c.in-Ok-Normal.is at c.in-Ok-Normal.field-0-is)) in
    omega (arith, w.size)

pub slice_bounds-join-end : goal.slice_bounds-join-end
slice_bounds-join-end c =
    let a = c.args in
    let w = normal_read a.mid a.bytes.now c.in-Ok-Normal.id c.in-Ok-Normal.total c.in-Ok-Normal.position c.in-Ok-Normal.size (sym c.read_packet-read.ensures ∙ c.in-Ok-Normal.is ∙ ap (λ (p : Packet). Ok p) (rw c.in-Ok-Normal.is at c.in-Ok-Normal.field-0-is)) in
    omega (arith, w.size)

pub join-requires : goal.join-requires
join-requires c =
    let a = c.args in
    let w = normal_read a.mid a.bytes.now c.in-Ok-Normal.id c.in-Ok-Normal.total c.in-Ok-Normal.position c.in-Ok-Normal.size (sym c.read_packet-read.ensures ∙ c.in-Ok-Normal.is ∙ ap (λ (p : Packet). Ok p) (rw c.in-Ok-Normal.is at c.in-Ok-Normal.field-0-is)) in
    (framed_collection a.completed (collection_of a.slots a.room.now) a.len (sym c.framed.ensures ∙ c.if-not-framed.false), right_part a.bytes.now c.in-Ok-Normal.id c.in-Ok-Normal.total c.in-Ok-Normal.position c.in-Ok-Normal.size w)

pub returns-in-Ok-Query : goal.returns-in-Ok-Query
returns-in-Ok-Query c =
    let a = c.args in
    hears_as a.completed (collection_of a.slots a.room.now) a.len a.mid a.bytes.now c.read_packet-read.result (Ok Query) (left_of c.stays-in-Ok-Query.result a.room.now) (sym c.framed.ensures ∙ c.if-not-framed.false) c.read_packet-read.ensures (c.in-Ok-Query.is ∙ ap (λ (p : Packet). Ok p) (rw c.in-Ok-Query.is at c.in-Ok-Query.field-0-is)) (ap (λ (h : Heard). left_of h a.room.now) c.stays-in-Ok-Query.ensures)

pub returns-in-Ok-Reset : goal.returns-in-Ok-Reset
returns-in-Ok-Reset c =
    let a = c.args in
    hears_as a.completed (collection_of a.slots a.room.now) a.len a.mid a.bytes.now c.read_packet-read.result (Ok Reset) (left_of c.cleared.result c.cleared.new.room) (sym c.framed.ensures ∙ c.if-not-framed.false) c.read_packet-read.ensures (c.in-Ok-Reset.is ∙ ap (λ (p : Packet). Ok p) (rw c.in-Ok-Reset.is at c.in-Ok-Reset.field-0-is)) c.cleared.ensures

pub returns-in-Ok-Normal : goal.returns-in-Ok-Normal
returns-in-Ok-Normal c =
    let a = c.args in
    let k = collection_of a.slots a.room.now in
    let e : 5 + c.in-Ok-Normal.size - 5 ≡ c.in-Ok-Normal.size = omega arith in
    hears_as a.completed k a.len a.mid a.bytes.now c.read_packet-read.result (Ok (Normal c.in-Ok-Normal.id c.in-Ok-Normal.total c.in-Ok-Normal.position c.in-Ok-Normal.size)) (left_of c.join.result c.join.new.room) (sym c.framed.ensures ∙ c.if-not-framed.false) c.read_packet-read.ensures (c.in-Ok-Normal.is ∙ ap (λ (p : Packet). Ok p) (rw c.in-Ok-Normal.is at c.in-Ok-Normal.field-0-is))
    (c.join.ensures ∙ ap (λ (n : ℕ). join_by (stay_of a.completed k) (count_of a.completed) a.completed k a.len c.in-Ok-Normal.id c.in-Ok-Normal.total c.in-Ok-Normal.position (take n (drop 5 a.bytes.now))) e)

pub returns-in-Err : goal.returns-in-Err
returns-in-Err c =
    let a = c.args in
    hears_as a.completed (collection_of a.slots a.room.now) a.len a.mid a.bytes.now c.read_packet-read.result (Err c.in-Err.e) (left_of c.stays-in-Err.result a.room.now) (sym c.framed.ensures ∙ c.if-not-framed.false) c.read_packet-read.ensures c.in-Err.is (ap (λ (h : Heard). left_of h a.room.now) c.stays-in-Err.ensures)
