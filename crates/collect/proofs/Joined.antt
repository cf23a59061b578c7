-- Where all positions are held, the room is the data joined by position, with zeros behind.
use Prim.Native.Nat.{ℕ, zero, suc, ◌+◌, ◌-◌, ◌*◌, ◌≤◌, ◌<◌}
use mathlib.Core.List.{List, [], ◌∷◌, ◌++◌, append_assoc, append-nil}
use mathlib.Core.Bool.{Bool, true}
use mathlib.Core.Path.{◌≡◌, refl, sym, ap, ◌∙◌}
use mathlib.Core.Logic.{dite}
use native.Mathlib.Decide.{dec_le}
use native.Mathlib.Omega.{arith}
use lib.Dec.{eqb, leb}
use lib.ListN.{length, get_or, take, drop, replicate, length-append, length-drop, replicate-append-replicate, take-append-drop}
use lib.Seq.{length-take-le, drop-drop}
use borrow.Author.Tests.{eqb-true, le-leb, lt-leb, ne_eqb, eq-eqb}
use Rattle.basis.specs.Bytes.{laid}
use Rattle.basis.specs.Choice.{when, ◌or◌}
use Rattle.basis.proofs.Choices.{and_parts, when_true, when_false}
use Rattle.room.specs.Room.{zeros_of}
use Rattle.room.proofs.Unused.{all_zeros}
use Rattle.collect.specs.Slots.{rule_of, one_of, held_of, slots_of, joined_of}
use Rattle.collect.proofs.Turns.{rule_most, one_most}

-- the parts of the slots' rule at the first of them
pub record First (total position len : ℕ) (lens room : List ℕ) : Type 0 where
  pub rule : rule_of total position len ≡ true
  pub clean : zeros_of (take (14 - len) (drop len room)) ≡ true
  pub rest : slots_of total (position + 1) lens (drop 14 room) ≡ true

pub first : (total position len : ℕ) (lens room : List ℕ) → slots_of total position (len ∷ lens) room ≡ true → First total position len lens room
unfolding slots_of
first total position len lens room e =
    let p = and_parts (rule_of total position len) _ e in
    let q = and_parts (zeros_of (take (14 - len) (drop len room))) _ p.1 in
    record { rule = p.0; clean = q.0; rest = q.1 }

-- from N on nothing is held
pub rule_past : (total position len : ℕ) → total ≤ position → rule_of total position len ≡ true → len ≡ 0
rule_past total position len h e = eqb-true len 0 (sym (when_true (leb total position) (eqb len 0) _ (le-leb total position h)) ∙ e)

-- before the last a held packet has 14 bytes
pub rule_full : (total position len : ℕ) → position + 1 < total → (len ≡ 0 → ⊥) → rule_of total position len ≡ true → len ≡ 14
rule_full total position len h held e =
    let a = when_false (leb total position) (eqb len 0) (when (leb (total - position) 1) (leb len 14) (eqb len 0 or eqb len 14)) (lt-leb total position (omega arith)) in
    let b = when_false (leb (total - position) 1) (leb len 14) (eqb len 0 or eqb len 14) (lt-leb (total - position) 1 (omega arith)) in
    let c = ap (λ (t : Bool). t or eqb len 14) (ne_eqb len 0 held) in
    eqb-true len 14 (sym (a ∙ b ∙ c) ∙ e)

one_held : (len : ℕ) → (one_of len ≡ 1) → len ≡ 0 → ⊥
one_held len e z = let w : one_of len ≡ 0 = ap (λ (t : Bool). when t 0 1) (eq-eqb len 0 z) in omega arith

one_none : (len : ℕ) → len ≡ 0 → one_of len ≡ 0
one_none len z = ap (λ (t : Bool). when t 0 1) (eq-eqb len 0 z)

-- no more are held than there are positions
pub held_most : (total position : ℕ) (lens room : List ℕ) → slots_of total position lens room ≡ true → held_of lens ≤ total - position
unfolding held_of
held_most total position [] room e = omega arith
held_most total position (len ∷ lens) room e =
    let f = first total position len lens room e in
    let rest : held_of lens ≤ total - (position + 1) = held_most total (position + 1) lens (drop 14 room) f.rest in
    dite (dec_le total position)
    (λ past. omega (arith, one_none len (rule_past total position len past f.rule)))
    (λ before. omega (arith, one_most len))

-- from N on the room holds zeros, and nothing is joined
pub past_room : (total position : ℕ) (lens room : List ℕ) → total ≤ position → slots_of total position lens room ≡ true
    → length room ≡ 14 * length lens → (joined_of lens room ≡ []) × (room ≡ replicate (length room) 0)
unfolding joined_of
past_room total position [] [] h e l = (refl, refl)
past_room total position [] (x ∷ xs) h e l = absurd (omega arith)
past_room total position (len ∷ lens) room h e l =
    let f = first total position len lens room e in
    let z : len ≡ 0 = rule_past total position len h f.rule in
    let ld : length (drop 14 room) ≡ length room - 14 = length-drop 14 room in
    let r = past_room total (position + 1) lens (drop 14 room) (omega arith) f.rest (omega arith) in
    let clean : zeros_of (take 14 room) ≡ true = ap (λ (n : ℕ). zeros_of (take (14 - n) (drop n room))) (sym z) ∙ f.clean in
    let lt : length (take 14 room) ≡ 14 = length-take-le 14 room (omega arith) in
    let front : take 14 room ≡ replicate 14 0 = all_zeros (take 14 room) clean ∙ ap (λ (n : ℕ). replicate n 0) lt in
    let whole : 14 + length (drop 14 room) ≡ length room = omega arith in (
      ap (λ (n : ℕ). take n room ++ joined_of lens (drop 14 room)) z ∙ r.0,
      sym (take-append-drop 14 room)
          ∙ ap (λ (xs : List ℕ). xs ++ drop 14 room) front
          ∙ ap (λ (xs : List ℕ). replicate 14 0 ++ xs) r.1
          ∙ replicate-append-replicate 14 (length (drop 14 room)) 0
          ∙ ap (λ (n : ℕ). replicate n 0) whole,
    )

-- a room of zeros
abbrev pub blank : ℕ → List ℕ
blank n = replicate n 0

pub drop_blank : (k n : ℕ) → drop k (blank n) ≡ blank (n - k)
drop_blank zero n = let e : n ≡ n - 0 = omega arith in ap blank e
drop_blank (suc k) zero = let e : 0 ≡ 0 - suc k = omega arith in ap blank e
drop_blank (suc k) (suc n) = let e : n - k ≡ suc n - suc k = omega arith in drop_blank k n ∙ ap blank e

-- laid over zeros, a list that is cut in two lays its front, then the rest over what is left
pub laid_front : (a b : List ℕ) (n : ℕ) → laid (a ++ b) (blank (length a + n)) ≡ a ++ laid b (blank n)
unfolding laid
laid_front a b n =
    let l : length (a ++ b) ≡ length a + length b = length-append a b in
    let e : length a + n - length (a ++ b) ≡ n - length b = omega arith in
    let cut : drop (length (a ++ b)) (blank (length a + n)) ≡ drop (length b) (blank n) =
    drop_blank (length (a ++ b)) (length a + n) ∙ ap blank e ∙ sym (drop_blank (length b) n) in
    ap (λ (xs : List ℕ). (a ++ b) ++ xs) cut ∙ append_assoc a b (drop (length b) (blank n))

laid_short : (a o : List ℕ) (n : ℕ) → length a ≡ n → laid a o ≡ a ++ drop n o
unfolding laid
laid_short a o n e = ap (λ (k : ℕ). a ++ drop k o) e

-- behind the data of a slot whose followers hold zeros, all is zeros
behind_zeros : (len : ℕ) (room : List ℕ) → len ≤ 14 → zeros_of (take (14 - len) (drop len room)) ≡ true → drop 14 room ≡ blank (length (drop 14 room))
    → drop len room ≡ drop len (blank (length room))
behind_zeros len room most clean rest =
    let d = drop len room in
    let a = take (14 - len) d in
    let n : len + (14 - len) ≡ 14 = omega arith in
    let b : drop (14 - len) d ≡ drop 14 room = drop-drop (14 - len) len room ∙ ap (λ (k : ℕ). drop k room) n in
    let size : length a + length (drop 14 room) ≡ length room - len =
    omega (arith, length-append a (drop (14 - len) d), ap length (take-append-drop (14 - len) d), ap length b, length-drop len room) in
    sym (take-append-drop (14 - len) d)
    ∙ ap (λ (xs : List ℕ). xs ++ drop (14 - len) d) (all_zeros a clean)
    ∙ ap (λ (xs : List ℕ). blank (length a) ++ xs) (b ∙ rest)
    ∙ replicate-append-replicate (length a) (length (drop 14 room)) 0
    ∙ ap blank size
    ∙ sym (drop_blank len (length room))

-- where every position from one on is held: the room is the joined data over zeros, and its length goes by the last packet's
pub record Full (total position : ℕ) (lens room : List ℕ) : Type 0 where
  pub whole : laid (joined_of lens room) (blank (length room)) ≡ room
  pub size : length (joined_of lens room) ≡ 14 * (total - (position + 1)) + get_or lens (total - (position + 1)) 0

pub full_room : (total position : ℕ) (lens room : List ℕ) → position < total → total ≤ position + length lens
    → slots_of total position lens room ≡ true → held_of lens ≡ total - position → length room ≡ 14 * length lens → Full total position lens room
unfolding joined_of held_of
full_room total position [] room below enough e held l = absurd (omega arith)
full_room total position (len ∷ lens) room below enough e held l =
    dite (dec_le total (position + 1)) (λ last. at_last last)
    (λ more.
    before more (λ below' enough' held' l'. full_room total (position + 1) lens (drop 14 room) below' enough' f.rest held' l'))
  where
    f : First total position len lens room
    f = first total position len lens room e

    ld : length (drop 14 room) ≡ length room - 14
    ld = length-drop 14 room

    there : len ≡ 0 → ⊥
    there = one_held len (omega (arith, held_most total (position + 1) lens (drop 14 room) f.rest, one_most len))

    most : len ≤ 14
    most = rule_most total position len f.rule

    laid_len : length (take len room) ≡ len → laid (take len room) (blank (length room)) ≡ take len room ++ drop len (blank (length room))
    laid_len lt = laid_short (take len room) (blank (length room)) len lt

    at_last : total ≤ position + 1 → Full total position (len ∷ lens) room
    at_last last =
        let r = past_room total (position + 1) lens (drop 14 room) last f.rest (omega (arith, ld)) in
        let j : take len room ++ joined_of lens (drop 14 room) ≡ take len room = ap (λ (xs : List ℕ). take len room ++ xs) r.0 ∙ append-nil (take len room) in
        let lt : length (take len room) ≡ len = length-take-le len room (omega (arith, most)) in
        let none : total - (position + 1) ≡ 0 = omega arith in
        let plain : len ≡ 14 * 0 + len = omega arith in
        record {
          whole = ap (λ (xs : List ℕ). laid xs (blank (length room))) j
              ∙ laid_len lt
              ∙ ap (λ (xs : List ℕ). take len room ++ xs) (sym (behind_zeros len room most f.clean r.1))
              ∙ take-append-drop len room;
          size = ap length j ∙ lt ∙ plain ∙ ap (λ (n : ℕ). 14 * n + get_or (len ∷ lens) n 0) (sym none);
        }

    before : (total ≤ position + 1 → ⊥)
        → (position + 1 < total → total ≤ position + 1 + length lens → held_of lens ≡ total - (position + 1) → length (drop 14 room) ≡ 14 * length lens → Full total (position + 1) lens (drop 14 room))
        → Full total position (len ∷ lens) room
    before more again =
        let full : len ≡ 14 = rule_full total position len (omega arith) there f.rule in
        let r = again (omega arith) (omega arith) (omega (arith, one_most len, held_most total (position + 1) lens (drop 14 room) f.rest)) (omega (arith, ld)) in
        let j = joined_of lens (drop 14 room) in
        let lt : length (take 14 room) ≡ 14 = length-take-le 14 room (omega arith) in
        let cut : length room ≡ length (take 14 room) + length (drop 14 room) = omega (arith, ld) in
        let k = total - (position + 1 + 1) in
        let next : total - (position + 1) ≡ suc k = omega arith in
        let lj : length (take 14 room ++ j) ≡ 14 + length j = omega (arith, length-append (take 14 room) j) in
        record {
          whole = ap (λ (n : ℕ). laid (take n room ++ j) (blank (length room))) full
              ∙ ap (λ (n : ℕ). laid (take 14 room ++ j) (blank n)) cut
              ∙ laid_front (take 14 room) j (length (drop 14 room))
              ∙ ap (λ (xs : List ℕ). take 14 room ++ xs) r.whole
              ∙ take-append-drop 14 room;
          size = ap (λ (n : ℕ). length (take n room ++ j)) full
              ∙ (lj ∙ (omega (arith, r.size)))
              ∙ ap (λ (n : ℕ). 14 * n + get_or (len ∷ lens) n 0) (sym next);
        }
