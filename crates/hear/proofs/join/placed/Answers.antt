-- `placed` stores the packet, then counts what is held.
use Prim.Native.Nat.{◌≤◌, ◌<◌}
use mathlib.Core.Path.{◌≡◌, ap}
use native.Mathlib.Omega.{arith}
use lib.ListN.{length, set}
use Rattle.collect.specs.Slots.{Collection, collection_of, held_of, stored_of}
use Rattle.hear.specs.Join.{left_of}
use Rattle.hear.specs.declared.Heard.{Heard}
use Rattle.hear.proofs.Places.{stored_is, stored_whole, counted_less, counted_full}
use borrow.Author.Rules.{rules}
use Rattle.hear.proofs.join.placed.Goals as goal

pub returns-then-held-next : goal.returns-then-held-next
returns-then-held-next c =
    let a = c.args in
    let k = collection_of a.slots a.room.now in
    let x = c.fill.new.room in
    let n : Collection = record { id = a.slots.id; total = a.slots.total; lens = set a.slots.lens a.position (length a.part.now); room = x } in
    let less : held_of n.lens < n.total = omega (arith, c.held.ensures, c.if-held-next.true) in
    counted_less a.completed n (stored_of k a.position a.part.now) (left_of c.stays.result x) (stored_is k a.position a.part.now x c.fill.ensures) less (ap (λ (h : Heard). left_of h x) c.stays.ensures)

pub released-requires : goal.released-requires
released-requires c =
    let a = c.args in
    let k = collection_of a.slots a.room.now in
    let x = c.fill.new.room in
    let l : length a.slots.lens ≡ 6 = search rules in
    let r : length a.room.now ≡ 84 = search rules in
    let n : Collection = record { id = a.slots.id; total = a.slots.total; lens = set a.slots.lens a.position (length a.part.now); room = x } in
    let e = stored_is k a.position a.part.now x c.fill.ensures in
    let all : n.total ≤ held_of n.lens = omega (arith, c.held.ensures, c.if-held-next.false) in
    stored_whole k a.position a.part.now l r c.requires n e all

pub returns : goal.returns
returns c =
    let a = c.args in
    let k = collection_of a.slots a.room.now in
    let x = c.fill.new.room in
    let l : length a.slots.lens ≡ 6 = search (rules, c.well_formed.1.0) in
    let r : length a.room.now ≡ 84 = search rules in
    let n : Collection = record { id = a.slots.id; total = a.slots.total; lens = set a.slots.lens a.position (length a.part.now); room = x } in
    let e = stored_is k a.position a.part.now x c.fill.ensures in
    let all : n.total ≤ held_of n.lens = omega (arith, c.held.ensures, c.if-held-next.false) in
    counted_full a.completed n (stored_of k a.position a.part.now) (left_of c.released.result x) e all c.released.ensures
