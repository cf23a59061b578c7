-- What callers go by: which IDs there are after a completion, which of them is told, and that sound stays sound.
use Prim.Native.Nat.{ℕ, zero, suc, ◌+◌, ◌-◌, ◌≤◌, ◌<◌}
use mathlib.Core.List.{List, [], ◌∷◌, ◌++◌}
use mathlib.Core.Bool.{Bool, true, false, not}
use mathlib.Core.Path.{◌≡◌, refl, sym, ap, ◌∙◌}
use mathlib.Core.Logic.{dite}
use native.Mathlib.Decide.{dec_lt}
use native.Mathlib.Omega.{arith}
use lib.Dec.{eqb, ltb, leb}
use lib.ListN.{length, take, drop, replicate, length-drop, take-append-drop}
use lib.Seq.{take-take, take_all, length-take-le}
use borrow.Author.Tests.{eq-eqb, le-leb, leb-true, lt-ltb, le-ltb}
use Rattle.basis.specs.Choice.{◌and◌, ◌or◌}
use Rattle.basis.proofs.Bytes.{drop_take}
use Rattle.basis.proofs.Choices.{and_parts, and_true, when_true, when_false}
use Rattle.room.specs.Room.{zeros_of}
use Rattle.room.proofs.Unused.{all_zeros, zeros_take}
use Rattle.completed.specs.Completed.{ids_of, newest_of, is_among, more_of, differ_of, none_of, last_of, has_of, added_of, sound_of}
use Rattle.completed.specs.declared.Completed.{Completed}
use Rattle.completed.proofs.Lists.{differ_take}

-- none are sound, and no ID is one of them
pub none_sound : sound_of none_of ≡ true
unfolding sound_of none_of
none_sound = refl

pub none_has : (id : ℕ) → has_of none_of id ≡ false
unfolding has_of none_of
none_has id = refl

-- the parts of what is sound
pub record Parts (d : Completed) : Type 0 where
  pub most : d.count ≤ 4
  pub differ : differ_of (ids_of d) ≡ true
  pub clean : zeros_of (drop d.count d.ids) ≡ true

pub sound_parts : (d : Completed) → sound_of d ≡ true → Parts d
unfolding sound_of
sound_parts d e =
    let p = and_parts (leb d.count 4) (differ_of (ids_of d) and zeros_of (drop d.count d.ids)) e in
    let q = and_parts (differ_of (ids_of d)) (zeros_of (drop d.count d.ids)) p.1 in
    record { most = leb-true d.count 4 p.0; differ = q.0; clean = q.1 }

-- so many more, and which those are: the new one in front of the others, and four at most
more_few : (n : ℕ) → n < 4 → more_of n ≡ suc n
more_few n h = let e : n + 1 ≡ suc n = omega arith in when_true (ltb n 4) (n + 1) 4 (lt-ltb n 4 h) ∙ e

more_full : (n : ℕ) → 4 ≤ n → more_of n ≡ 4
more_full n h = when_false (ltb n 4) (n + 1) 4 (le-ltb n 4 h)

pub ids_most : (d : Completed) → length (ids_of d) ≤ d.count
ids_most d = go d.count d.ids
  where
    go : (n : ℕ) (s : List ℕ) → length (take n s) ≤ n
    go zero s = omega arith
    go (suc n) [] = omega arith
    go (suc n) (x ∷ xs) = omega (arith, go n xs)

pub ids_added : (d : Completed) (id : ℕ) → d.count ≤ 4 → ids_of (added_of d id) ≡ take 4 (id ∷ ids_of d)
unfolding added_of
ids_added d id most =
    dite (dec_lt d.count 4)
    (λ few.
    let a : d.count ≤ 3 = omega arith in
    let l : length (take d.count d.ids) ≤ 3 = omega (arith, ids_most d) in
    ap (λ (n : ℕ). take n (id ∷ take 3 d.ids)) (more_few d.count few)
    ∙ ap (λ (xs : List ℕ). id ∷ xs) (take-take d.count 3 d.ids a ∙ sym (take_all 3 (take d.count d.ids) l)))
    (λ full.
    let n : d.count ≡ 4 = omega arith in
    let three : 3 ≤ 3 = omega arith in
    let four : 3 ≤ d.count = omega arith in
    ap (λ (k : ℕ). take k (id ∷ take 3 d.ids)) (more_full d.count (omega arith))
    ∙ ap (λ (xs : List ℕ). id ∷ xs) (take-take 3 3 d.ids three ∙ sym (take-take 3 d.count d.ids four)))

-- a completed ID is known and told
pub has_added : (d : Completed) (id : ℕ) → d.count ≤ 4 → has_of (added_of d id) id ≡ true
unfolding has_of
has_added d id most =
    ap (is_among id) (ids_added d id most) ∙ ap (λ (t : Bool). t or is_among id (take 3 (ids_of d))) (eq-eqb id id refl)

pub last_added : (d : Completed) (id : ℕ) → d.count ≤ 4 → last_of (added_of d id) ≡ id
unfolding last_of
last_added d id most = ap newest_of (ids_added d id most)

-- sound stays sound when an ID is completed that isn't among them
pub added_sound : (d : Completed) (id : ℕ) → sound_of d ≡ true → id ≤ 0x3F → has_of d id ≡ false → sound_of (added_of d id) ≡ true
unfolding sound_of added_of has_of
added_sound d id e few new =
    let p = sound_parts d e in
    let n = more_of d.count in
    let differ : differ_of (id ∷ ids_of d) ≡ true = and_true (leb id 0x3F) _ (le-leb id 0x3F few) (and_true (not (is_among id (ids_of d))) _ (ap not new) p.differ) in
    and_true (leb n 4) _ (le-leb n 4 (omega (arith, more_most)))
    (and_true (differ_of (take n (id ∷ take 3 d.ids))) _ (ap differ_of (ids_added d id p.most) ∙ differ_take 4 (id ∷ ids_of d) differ) (clean p.clean))
  where
    more_most : more_of d.count ≤ 4
    more_most = dite (dec_lt d.count 4) (λ few. omega (arith, more_few d.count few)) (λ full. omega (arith, more_full d.count (omega arith)))

    none : (s : List ℕ) → drop 3 (take 3 s) ≡ []
    none [] = refl
    none (a ∷ []) = refl
    none (a ∷ b ∷ []) = refl
    none (a ∷ b ∷ c ∷ s) = refl

    clean : zeros_of (drop d.count d.ids) ≡ true → zeros_of (drop (more_of d.count) (id ∷ take 3 d.ids)) ≡ true
    clean zeros =
        dite (dec_lt d.count 4)
        (λ few.
        let three : d.count ≤ 3 = omega arith in
        ap (λ (k : ℕ). zeros_of (drop k (id ∷ take 3 d.ids))) (more_few d.count few)
        ∙ ap zeros_of (drop_take d.count 3 d.ids three)
        ∙ zeros_take (3 - d.count) (drop d.count d.ids) zeros)
        (λ full.
        ap (λ (k : ℕ). zeros_of (drop k (id ∷ take 3 d.ids))) (more_full d.count (omega arith)) ∙ ap zeros_of (none d.ids))

-- the last of them can be told
pub last_told : (d : Completed) → sound_of d ≡ true → leb (last_of d) 0x3F or eqb (last_of d) 0x41 ≡ true
unfolding last_of
last_told d e = go (ids_of d) (sound_parts d e).differ
  where
    go : (s : List ℕ) → differ_of s ≡ true → leb (newest_of s) 0x3F or eqb (newest_of s) 0x41 ≡ true
    go [] h = refl
    go (x ∷ xs) h = ap (λ (t : Bool). t or eqb x 0x41) (and_parts (leb x 0x3F) _ h).0

-- the room of the IDs keeps its size
pub added_room : (d : Completed) (id : ℕ) → length d.ids ≡ 4 → length (added_of d id).ids ≡ 4
unfolding added_of
added_room d id size = omega (arith, length-take-le 3 d.ids (omega arith))

pub none_room : length none_of.ids ≡ 4
unfolding none_of
none_room = refl

-- sound ones depend only on the IDs that there are
pub same_completed : (d e : Completed) → sound_of d ≡ true → sound_of e ≡ true → length d.ids ≡ 4 → length e.ids ≡ 4 → ids_of d ≡ ids_of e → d ≡ e
same_completed d e sd se ld le same =
    let p = sound_parts d sd in
    let q = sound_parts e se in
    let cd : length (ids_of d) ≡ d.count = length-take-le d.count d.ids (omega (arith, p.most)) in
    let ce : length (ids_of e) ≡ e.count = length-take-le e.count e.ids (omega (arith, q.most)) in
    let n : d.count ≡ e.count = sym cd ∙ ap length same ∙ ce in
    let left : length (drop d.count d.ids) ≡ length (drop e.count e.ids) =
    omega (arith, length-drop d.count d.ids, length-drop e.count e.ids) in
    let rest : drop d.count d.ids ≡ drop e.count e.ids =
    all_zeros (drop d.count d.ids) p.clean
    ∙ ap (λ (k : ℕ). replicate k 0) left
    ∙ sym (all_zeros (drop e.count e.ids) q.clean) in
    let room : d.ids ≡ e.ids =
    sym (take-append-drop d.count d.ids)
    ∙ ap (λ (xs : List ℕ). xs ++ drop d.count d.ids) same
    ∙ ap (λ (xs : List ℕ). ids_of e ++ xs) rest
    ∙ take-append-drop e.count e.ids in
    ap (λ (k : ℕ). record { count = k; ids = d.ids }) n ∙ ap (λ (xs : List ℕ). record { count = e.count; ids = xs }) room
