-- A sound collection depends only on what it holds: of equal ID and total, and with equal packets, two are one.
use Prim.Native.Nat.{ℕ, ◌+◌, ◌-◌, ◌*◌, ◌≤◌}
use mathlib.Core.List.{List, [], ◌∷◌, ◌++◌}
use mathlib.Core.Bool.{true}
use mathlib.Core.Path.{◌≡◌, refl, sym, ap, ◌∙◌}
use native.Mathlib.Omega.{arith}
use lib.ListN.{length, take, drop, length-drop, take-append-drop}
use lib.Seq.{take-add, length-take-le}
use Rattle.room.specs.Room.{zeros_of}
use Rattle.room.proofs.Unused.{all_zeros}
use Rattle.collect.specs.Slots.{slots_of, packets_of}
use Rattle.collect.specs.Slots.{Collection}
use Rattle.collect.proofs.Turns.{rule_most}
use Rattle.collect.proofs.Joined.{first, blank}

-- a slot is its data and zeros
slot_is : (len : ℕ) (room : List ℕ) → len ≤ 14 → 14 ≤ length room → zeros_of (take (14 - len) (drop len room)) ≡ true
    → take 14 room ≡ take len room ++ blank (14 - len)
slot_is len room most wide clean =
    let n : 14 ≡ len + (14 - len) = omega arith in
    let rest = take (14 - len) (drop len room) in
    let size : length rest ≡ 14 - len = length-take-le (14 - len) (drop len room) (omega (arith, length-drop len room)) in
    ap (λ (k : ℕ). take k room) n
    ∙ take-add len (14 - len) room
    ∙ ap (λ (xs : List ℕ). take len room ++ xs) (all_zeros rest clean ∙ ap blank size)

nothing : (room : List ℕ) → length room ≡ 0 → room ≡ []
nothing [] e = refl
nothing (x ∷ xs) e = absurd (omega arith)

-- equal packets, equal lengths and rooms
pub only : (total q : ℕ) (lens lens' room room' : List ℕ) → slots_of total q lens room ≡ true → slots_of total q lens' room' ≡ true
    → length room ≡ 14 * length lens
    → length room' ≡ 14 * length lens'
    → packets_of lens room ≡ packets_of lens' room'
    → (lens ≡ lens') × (room ≡ room')
only total q [] [] room room' s s' l l' e = (refl, nothing room l ∙ sym (nothing room' l'))
only total q [] (y ∷ ys) room room' s s' l l' e = let z : ◌≡◌ {A = ℕ} 0 1 = cc in absurd (omega arith)
only total q (x ∷ xs) [] room room' s s' l l' e = let z : ◌≡◌ {A = ℕ} 0 1 = cc in absurd (omega arith)
only total q (x ∷ xs) (y ∷ ys) room room' s s' l l' e =
    let f = first total q x xs room s in
    let f' = first total q y ys room' s' in
    let most : x ≤ 14 = rule_most total q x f.rule in
    let most' : y ≤ 14 = rule_most total q y f'.rule in
    let head : take x room ≡ take y room' = cc in
    let tail : packets_of xs (drop 14 room) ≡ packets_of ys (drop 14 room') = cc in
    let same : x ≡ y = omega (arith, length-take-le x room (omega arith), length-take-le y room' (omega arith), ap length head) in
    let rest =
    only total (q + 1) xs ys (drop 14 room) (drop 14 room') f.rest f'.rest (omega (arith, length-drop 14 room)) (omega (arith, length-drop 14 room')) tail in
    let slot : take 14 room ≡ take 14 room' =
    slot_is x room most (omega arith) f.clean
    ∙ ap (λ (p : List ℕ). p ++ blank (14 - x)) head
    ∙ ap (λ (k : ℕ). take y room' ++ blank (14 - k)) same
    ∙ sym (slot_is y room' most' (omega arith) f'.clean) in (
      ap (λ (k : ℕ). k ∷ xs) same ∙ ap (λ (ks : List ℕ). y ∷ ks) rest.0,
      sym (take-append-drop 14 room)
          ∙ ap (λ (p : List ℕ). p ++ drop 14 room) slot
          ∙ ap (λ (p : List ℕ). take 14 room' ++ p) rest.1
          ∙ take-append-drop 14 room',
    )

-- a collection with rooms of their sizes, whose slots are right
pub record Neat (c : Collection) : Type 0 where
  pub slots : slots_of c.total 0 c.lens c.room ≡ true
  pub lens : length c.lens ≡ 6
  pub room : length c.room ≡ 84

pub one_collection : (c d : Collection) → Neat c → Neat d → c.id ≡ d.id → c.total ≡ d.total
    → packets_of c.lens c.room ≡ packets_of d.lens d.room
    → c ≡ d
one_collection c d n m i t p =
    let s : slots_of c.total 0 d.lens d.room ≡ true = ap (λ (k : ℕ). slots_of k 0 d.lens d.room) t ∙ m.slots in
    let e =
    only c.total 0 c.lens d.lens c.room d.room n.slots s (omega (arith, n.lens, n.room)) (omega (arith, m.lens, m.room)) p in
    ap (λ (k : ℕ). whole k c.total c.lens c.room) i
    ∙ ap (λ (k : ℕ). whole d.id k c.lens c.room) t
    ∙ ap (λ (xs : List ℕ). whole d.id d.total xs c.room) e.0
    ∙ ap (λ (xs : List ℕ). whole d.id d.total d.lens xs) e.1
  where
    whole : (id total : ℕ) (lens room : List ℕ) → Collection
    whole id total lens room = record { id = id; total = total; lens = lens; room = room }
