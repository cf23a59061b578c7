-- An image read back gives its record, and every image of 106 bytes is some record, whose image it is.
use Prim.Native.Nat.{ℕ, zero, suc, ◌+◌, ◌%◌, ◌≤◌, ◌<◌}
use mathlib.Core.Bool.{Bool, true, false}
use mathlib.Core.List.{List, [], ◌∷◌, ◌++◌}
use mathlib.Core.Path.{◌≡◌, refl, sym, ap, ◌∙◌}
use native.Mathlib.Omega.{arith}
use lib.Dec.{eqb}
use lib.ListN.{length, take, drop, get_or, length-append, drop_of_length-le, take-append-drop}
use lib.Seq.{take_at, drop_at, drop-drop, drop-cons, get_or-drop, length-take-le}
use borrow.Author.Tests.{eqb-true, eqb-false}
use Rattle.basis.specs.Bytes.{Bytes}
use Rattle.basis.proofs.Bytes.{byte_at, cut_length}
use Rattle.basis.proofs.Choices.{and_parts}
use Rattle.std.proofs.Common.{Option, Some}
use Rattle.judge.specs.Standing.{inside_of}
use Rattle.loops.specs.declared.Open.{Open}
use Rattle.judge.specs.declared.Standing.{Standing}
use Rattle.machine.specs.Sound.{body_of, held_of, sound_of as run_sound}
use Rattle.machine.specs.declared.Loop.{Loop}
use Rattle.machine.specs.declared.Run.{Run}
use Rattle.machine.proofs.Reached.{Opens, reach_opens}
use Rattle.machine.proofs.Sounds.{sound_parts as run_parts, busy_at}
use Rattle.sign.specs.Sound.{sound_of}
use Rattle.sign.specs.declared.Sign.{Sign}
use Rattle.sign.proofs.Sounds.{sound_parts}
use Rattle.image.specs.Layout.{run_bytes, image_of, record_of}

-- the arrays of a record have their lengths, which its type says
pub record Shaped (s : Sign) : Type 0 where
  pub ids : length s.completed.ids ≡ 4
  pub lens : length s.slots.lens ≡ 6
  pub room : length s.room ≡ 84

-- a byte holds its length and its places
pub record Small (s : Sign) : Type 0 where
  pub len : s.run.len < 256
  pub place : s.run.place < 256
  pub behind : s.run.inner.place < 256

-- the parts of an image after its first byte: the completed IDs, two bytes, the lengths, the room and the run
module _ (w x y rest : List ℕ) (id total : ℕ) (lw : length w ≡ 4) (lx : length x ≡ 6) (ly : length y ≡ 84) where
  abbrev tail : List ℕ
  tail = id ∷ total ∷ (x ++ (y ++ rest))

  at_ids : take 4 (w ++ (id ∷ total ∷ (x ++ (y ++ rest)))) ≡ w
  at_ids = take_at w tail 4 lw

  past_ids : (n : ℕ) → drop (4 + n) (w ++ (id ∷ total ∷ (x ++ (y ++ rest)))) ≡ drop n tail
  past_ids n = let e : 4 + n ≡ n + 4 = omega arith in ap (λ (k : ℕ). drop k (w ++ tail)) e ∙ swap (w ++ tail) ∙ ap (drop n) (drop_at w tail 4 lw)
    where
      swap : (l : List ℕ) → drop (n + 4) l ≡ drop n (drop 4 l)
      swap l = let f : n + 4 ≡ 4 + n = omega arith in ap (λ (k : ℕ). drop k l) f ∙ sym (drop-drop n 4 l)

  at_tail : (i : ℕ) → get_or (w ++ (id ∷ total ∷ (x ++ (y ++ rest)))) (4 + i) 0 ≡ get_or tail i 0
  at_tail i = sym (get_or-drop 4 (w ++ tail) i 0) ∙ ap (λ (l : List ℕ). get_or l i 0) (drop_at w tail 4 lw)

  at_lens : take 6 (drop 6 (w ++ (id ∷ total ∷ (x ++ (y ++ rest))))) ≡ x
  at_lens = ap (take 6) (past_ids 2) ∙ take_at x (y ++ rest) 6 lx

  at_room : take 84 (drop 12 (w ++ (id ∷ total ∷ (x ++ (y ++ rest))))) ≡ y
  at_room = ap (take 84) (past_ids 8 ∙ drop_at x (y ++ rest) 6 lx) ∙ take_at y rest 84 ly

  past_room : drop 90 (x ++ (y ++ rest)) ≡ rest
  past_room = sym (drop-drop 84 6 (x ++ (y ++ rest))) ∙ ap (drop 84) (drop_at x (y ++ rest) 6 lx) ∙ drop_at y rest 84 ly

  at_rest : (i : ℕ) → get_or (w ++ (id ∷ total ∷ (x ++ (y ++ rest)))) (96 + i) 0 ≡ get_or rest i 0
  at_rest i =
      let e : 96 + i ≡ 4 + (92 + i) = omega arith in
      let f : 92 + i ≡ suc (suc (90 + i)) = omega arith in
      ap (λ (k : ℕ). get_or (w ++ tail) k 0) e
      ∙ at_tail (92 + i)
      ∙ ap (λ (k : ℕ). get_or tail k 0) f
      ∙ sym (get_or-drop 90 (x ++ (y ++ rest)) i 0)
      ∙ ap (λ (l : List ℕ). get_or l i 0) past_room

-- a record by its fields
fields : (s : Sign) (w x y : List ℕ) (id total len place behind left pace scans sink dim bright : ℕ) → w ≡ s.completed.ids → id ≡ s.slots.id
    → total ≡ s.slots.total
    → x ≡ s.slots.lens
    → y ≡ s.room
    → len ≡ s.run.len
    → place ≡ s.run.place
    → behind ≡ s.run.inner.place
    → left ≡ s.run.inner.left
    → pace ≡ s.run.settings.pace
    → scans ≡ s.run.settings.scans
    → sink ≡ s.run.settings.sink
    → dim ≡ s.run.settings.dim
    → bright ≡ s.run.settings.bright
    → ◌≡◌ {A = Sign}
    (record {
      completed = record { count = s.completed.count; ids = w };
      slots = record { id = id; total = total; lens = x };
      room = y;
      run =
          record {
            len = len;
            place = place;
            inner = record { place = behind; left = left };
            settings = record { pace = pace; scans = scans; sink = sink; dim = dim; bright = bright };
          };
    })
    s
fields s w x y id total len place behind left pace scans sink dim bright ew ei et ex ey e1 e2 e3 e4 e5 e6 e7 e8 e9 =
    rw (ew, ei, et, ex, ey, e1, e2, e3, e4, e5, e6, e7, e8, e9)

-- an image of a record has 106 bytes
pub image_size_lem : (s : Sign) → Shaped s → length (image_of s) ≡ 106
unfolding image_of
image_size_lem s h =
    let d = s.completed.ids in
    let l = s.slots.lens in
    let r = s.room in
    let p = run_bytes s.run in
    omega (arith, h.ids, h.lens, h.room, length-append d (s.slots.id ∷ s.slots.total ∷ (l ++ (r ++ p))), length-append l (r ++ p), length-append r p)

-- reading an image back gives the record
pub record_back : (s : Sign) → Shaped s → Small s → record_of (image_of s) ≡ s
unfolding record_of image_of
record_back s h small =
    let d = s.completed.ids in
    let i = s.slots.id in
    let t = s.slots.total in
    let l = s.slots.lens in
    let r = s.room in
    let p = run_bytes s.run in
    let tail = at_tail d l r p i t h.ids h.lens h.room in
    let rest = at_rest d l r p i t h.ids h.lens h.room in
    let n : s.run.len % 256 ≡ s.run.len = omega (arith, small.len) in
    let q : s.run.place % 256 ≡ s.run.place = omega (arith, small.place) in
    let k : s.run.inner.place % 256 ≡ s.run.inner.place = omega (arith, small.behind) in
    fields s _ _ _ _ _ _ _ _ _ _ _ _ _ _ (at_ids d l r p i t h.ids h.lens h.room) (tail 0) (tail 1)
    (at_lens d l r p i t h.ids h.lens h.room)
    (at_room d l r p i t h.ids h.lens h.room)
    (rest 0 ∙ n)
    (rest 1 ∙ q)
    (rest 2 ∙ k)
    (rest 3)
    (rest 4)
    (rest 5)
    (rest 6)
    (rest 7)
    (rest 8)

-- a loop that is held stands at or before its place
held_before : (b : List ℕ) (q : ℕ) (o : List Open) (l : Loop) → Opens b q o → held_of (Some (inside_of o)) l ≡ true → l.place ≤ q
held_before b q [] l w h = omega (arith, eqb-true l.place 0 (and_parts (eqb l.place 0) _ h).0)
held_before b q (x ∷ []) l w h = omega (arith, w.before, eqb-true l.place x.behind (and_parts (eqb l.place x.behind) _ h).0)
held_before b q (x ∷ y ∷ o) l w h = absurd w

-- a sound run is small: its places lie within its body
run_small : (room : List ℕ) (r : Run) → length room ≡ 84 → run_sound room r ≡ true → (t : Bool) → eqb r.len 0 ≡ t
    → (r.len < 256) × ((r.place < 256) × (r.inner.place < 256))
run_small room r shaped sound true e =
    let parts = run_parts room r sound in
    let none = eqb-true r.len 0 e in
    let rest = and_parts (eqb r.place 0) _ (parts.rests none) in
    let inner = and_parts (eqb r.inner.place 0) _ rest.1 in
    (omega (arith, none), (omega (arith, eqb-true r.place 0 rest.0), omega (arith, eqb-true r.inner.place 0 inner.0)))
run_small room r shaped sound false e =
    let parts = run_parts room r sound in
    let busy = eqb-false r.len 0 e in
    let at = busy_at room r sound busy in
    let held : held_of (Some (inside_of at.opens)) r.inner ≡ true = sym (ap (λ (x : Option Standing). held_of x r.inner) at.stands) ∙ parts.held busy in
    let before = held_before (body_of room r) r.place at.opens r.inner (reach_opens (body_of room r) at.reached) held in
    let fits : r.len ≤ length room = parts.fits in
    let size : length (body_of room r) ≡ r.len = length-take-le r.len room fits in
    (omega (arith, fits, shaped), (omega (arith, fits, shaped, at.within, size), omega (arith, fits, shaped, at.within, size, before)))

pub sound_small : (s : Sign) → Shaped s → sound_of s ≡ true → Small s
sound_small s h sound =
    let w = run_small s.room s.run h.room (sound_parts s sound).run (eqb s.run.len 0) refl in
    record { len = w.0; place = w.1.0; behind = w.1.1 }

-- so a sound record comes back from its image
pub sound_back : (s : Sign) → Shaped s → sound_of s ≡ true → record_of (image_of s) ≡ s
sound_back s h sound = record_back s h (sound_small s h sound)

-- every image of 106 bytes is some record, with arrays of their lengths
pub image_shaped : (b : List ℕ) → length b ≡ 106 → Shaped (record_of b)
unfolding record_of
image_shaped b e = record { ids = cut_length b 1 4 (omega arith); lens = cut_length b 7 6 (omega arith); room = cut_length b 13 84 (omega arith) }

-- so many elements from a place on, one by one
abbrev listed : List ℕ → (n at : ℕ) → List ℕ
listed b zero at = []
listed b (suc n) at = get_or b at 0 ∷ listed b n (suc at)

to_the_end : (b : List ℕ) (n at : ℕ) → at + n ≡ length b → drop at b ≡ listed b n at
to_the_end b zero at e = let past : length b ≤ at = omega arith in drop_of_length-le b past
to_the_end b (suc n) at e =
    let here : at < length b = omega arith in
    let rest : suc at + n ≡ length b = omega arith in
    drop-cons b at 0 here ∙ ap (λ (l : List ℕ). get_or b at 0 ∷ l) (to_the_end b n (suc at) rest)

-- a part of a list, and what stands after it
cut : (b : List ℕ) (at n : ℕ) → take n (drop at b) ++ drop (at + n) b ≡ drop at b
cut b at n = ap (λ (l : List ℕ). take n (drop at b) ++ l) (sym (drop-drop n at b)) ∙ take-append-drop n (drop at b)

-- and every image is the image of its record, byte for byte
pub image_again : (b : List ℕ) → length b ≡ 106 → Bytes b → image_of (record_of b) ≡ b
unfolding record_of image_of
image_again b e h =
    let n : get_or b 97 0 % 256 ≡ get_or b 97 0 = omega (arith, byte_at b 97 h) in
    let q : get_or b 98 0 % 256 ≡ get_or b 98 0 = omega (arith, byte_at b 98 h) in
    let k : get_or b 99 0 % 256 ≡ get_or b 99 0 = omega (arith, byte_at b 99 h) in
    let end : drop 97 b ≡ listed b 9 97 = to_the_end b 9 97 (sym e) in
    let first : 0 < length b = omega arith in
    let sixth : 5 < length b = omega arith in
    let seventh : 6 < length b = omega arith in
    let two : drop 5 b ≡ get_or b 5 0 ∷ get_or b 6 0 ∷ drop 7 b =
    drop-cons b 5 0 sixth ∙ ap (λ (l : List ℕ). get_or b 5 0 ∷ l) (drop-cons b 6 0 seventh) in
    let parts : take 6 (drop 7 b) ++ (take 84 (drop 13 b) ++ drop 97 b) ≡ drop 7 b =
    ap (λ (l : List ℕ). take 6 (drop 7 b) ++ l) (cut b 13 84) ∙ cut b 7 6 in
    rw (n, q, k)
    (ap (λ (l : List ℕ). get_or b 0 0 ∷ (take 4 (drop 1 b) ++ get_or b 5 0 ∷ get_or b 6 0 ∷ (take 6 (drop 7 b) ++ (take 84 (drop 13 b) ++ l)))) (sym end)
    ∙ ap (λ (l : List ℕ). get_or b 0 0 ∷ (take 4 (drop 1 b) ++ get_or b 5 0 ∷ get_or b 6 0 ∷ l)) parts
    ∙ ap (λ (l : List ℕ). get_or b 0 0 ∷ (take 4 (drop 1 b) ++ l)) (sym two)
    ∙ ap (λ (l : List ℕ). get_or b 0 0 ∷ l) (cut b 1 4)
    ∙ sym (drop-cons b 0 0 first))

-- so sound records and accepted images are one to one: of equal images the records are equal, and of equal records the images
pub same_image : (s t : Sign) → Shaped s → Shaped t → sound_of s ≡ true → sound_of t ≡ true → image_of s ≡ image_of t → s ≡ t
same_image s t hs ht es et e = sym (sound_back s hs es) ∙ ap record_of e ∙ sound_back t ht et

pub same_record : (b c : List ℕ) → length b ≡ 106 → length c ≡ 106 → Bytes b → Bytes c → record_of b ≡ record_of c → b ≡ c
same_record b c lb lc hb hc e = sym (image_again b lb hb) ∙ ap image_of e ∙ image_again c lc hc
