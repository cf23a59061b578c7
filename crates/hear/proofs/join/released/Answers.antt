-- `released` takes the room as it stands: of a whole collection it is the joined data with zeros after it.
use Prim.Native.Nat.{◌+◌, ◌-◌, ◌*◌}
use mathlib.Core.Path.{◌≡◌, sym, ap, ◌∙◌}
use native.Mathlib.Omega.{arith}
use lib.ListN.{length, get_or, replicate}
use Rattle.judge.specs.Verdict.{judge_of}
use Rattle.completed.specs.declared.Completed.{Completed}
use Rattle.collect.specs.Slots.{begun_of, collection_of}
use Rattle.collect.specs.declared.Slots.{Slots}
use Rattle.hear.specs.declared.Outcome.TheVariants.{Released}
use Rattle.hear.proofs.Places.{whole_len, whole_size, whole_room, whole_body, whole_left}
use borrow.Author.Rules.{rules}
use Rattle.std.specs.Prelude.{Ok}
use Rattle.hear.proofs.join.released.Goals as goal

pub shared_ref_as_front-judge : goal.shared_ref_as_front-judge
shared_ref_as_front-judge c =
    let a = c.args in
    let l : length a.slots.lens ≡ 6 = search rules in
    let r : length a.room.now ≡ 84 = search rules in
    omega (arith, whole_len (collection_of a.slots a.room.now) l r c.requires)

pub returns : goal.returns
unfolding begun_of
returns c =
    let a = c.args in
    let k = collection_of a.slots a.room.now in
    let l : length a.slots.lens ≡ 6 = search rules in
    let r : length a.room.now ≡ 84 = search rules in
    let w = c.requires in
    let n = 14 * (a.slots.total - 1) + get_or a.slots.lens (a.slots.total - 1) 0 in
    let v = c.judge-verdict.result in
    ap (λ (s : Slots). record { outcome = Ok (Released v n); completed = c.with.result; collection = collection_of s a.room.now }) c.begun.ensures
    ∙ ap (λ (d : Completed). record { outcome = Ok (Released v n); completed = d; collection = record { id = 0; total = 0; lens = replicate 6 0; room = a.room.now } }) c.with.ensures
    ∙ whole_left a.completed k v n (whole_room k l r w) (c.judge-verdict.ensures ∙ ap judge_of (whole_body k l r w)) (sym (whole_size k l r w))
