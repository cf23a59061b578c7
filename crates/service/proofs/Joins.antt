-- The rules of Joining one by one: what bytes that come to a sound record are answered, by what is read of them, and what becomes of it.
use Prim.Native.Nat.{ℕ, ◌≤◌, ◌<◌}
use mathlib.Core.List.{List}
use mathlib.Core.Bool.{Bool, true, false, not}
use mathlib.Core.Path.{◌≡◌, refl, ap, ◌∙◌}
use lib.Dec.{eqb, leb}
use lib.ListN.{get_or, take, drop}
use borrow.Author.Tests.{eq-eqb, ne_eqb, le-leb, lt-leb}
use Rattle.basis.specs.Choice.{when}
use Rattle.basis.proofs.Choices.{when_true, when_false}
use Rattle.std.specs.Prelude.{Result, Ok, Err}
use Rattle.refusal.specs.declared.Refusal.TheVariants.{Busy, OtherPacket}
use Rattle.refusal.specs.declared.Refusal.{Refusal}
use Rattle.reader.specs.Read.{read_of}
use Rattle.reader.specs.declared.read.Packet.{Packet}
use Rattle.reader.specs.declared.read.Packet.TheVariants.{Query as QueryRead, Reset as ResetRead, Normal}
use Rattle.completed.specs.Completed.{has_of}
use Rattle.collect.specs.Slots.{Collection, held_of, same_of, begun_of, stored_of}
use Rattle.collect.proofs.Equal.{same_equal, equal_same}
use Rattle.hear.specs.Join.{slot_of, begins_of}
use Rattle.hear.specs.declared.Outcome.TheVariants.{Query, Reset, Repeat}
use Rattle.sign.specs.Sound.{collected_of}
use Rattle.sign.specs.Reset.{reset_of}
use Rattle.sign.specs.Join.{stays_of, stores_of, released_of, counted_of, goes_on, join_of}
use Rattle.sign.specs.Receive.{heard_of, receive_of}
use Rattle.sign.specs.declared.Sign.{Sign}
use Rattle.sign.proofs.Joining.{sound_receives}
use Rattle.service.specs.Good.{Good}

-- Stored while packets are missing
pub counted_stored : (s : Sign) (c : Collection) → held_of c.lens < c.total → counted_of s c ≡ stores_of s c
counted_stored s c missing =
    when_false (leb c.total (held_of c.lens)) (released_of s c) (stores_of s c) (lt-leb c.total (held_of c.lens) missing)

-- Released if all N are held
pub counted_released : (s : Sign) (c : Collection) → c.total ≤ held_of c.lens → counted_of s c ≡ released_of s c
counted_released s c all =
    when_true (leb c.total (held_of c.lens)) (released_of s c) (stores_of s c) (le-leb c.total (held_of c.lens) all)

-- other data is not the same
other_same : (a b : List ℕ) → (a ≡ b → ⊥) → same_of a b ≡ false
other_same a b other = go (same_of a b) refl
  where
    go : (t : Bool) → same_of a b ≡ t → t ≡ false
    go true e = absurd (other (same_equal a b e))
    go false e = refl

module _ (s : Sign) (good : Good s) (mid : ℕ) (b : List ℕ) where
  heard : (r : Result Packet Refusal) → read_of mid b ≡ r → receive_of s mid b ≡ heard_of s b r
  heard r read = sound_receives s mid b good.sound ∙ ap (heard_of s b) read

  -- what the reader refuses is refused by the same name
  pub unread : (e : Refusal) → read_of mid b ≡ Err e → receive_of s mid b ≡ stays_of s (Err e)
  unread e read = heard (Err e) read

  -- a query changes nothing
  pub queried : read_of mid b ≡ Ok QueryRead → receive_of s mid b ≡ stays_of s (Ok Query)
  queried read = heard (Ok QueryRead) read

  -- a reset drops collection and body
  pub cleared : read_of mid b ≡ Ok ResetRead → receive_of s mid b ≡ stays_of (reset_of s) (Ok Reset)
  cleared read = heard (Ok ResetRead) read

-- a normal packet that comes to a Ready sign, of an ID that isn't completed
module _ (s : Sign) (good : Good s) (mid : ℕ) (b : List ℕ) (id total position len : ℕ) (read : read_of mid b ≡ Ok (Normal id total position len))
    (ready : s.run.len ≡ 0)
    (other : has_of s.completed id ≡ false) where
  abbrev part : List ℕ
  part = take len (drop 5 b)

  taken : receive_of s mid b ≡ when (begins_of (collected_of s) id) (counted_of s (stored_of (begun_of id total) position part)) (goes_on s total position part)
  unfolding join_of
  taken =
      heard s good mid b (Ok (Normal id total position len)) read
      ∙ when_false (has_of s.completed id) (stays_of s (Ok Repeat)) _ other
      ∙ when_false (not (eqb s.run.len 0)) (stays_of s (Err Busy)) _ (ap not (eq-eqb s.run.len 0 ready))

  -- another ID than the one collected, or none collected: this packet begins
  pub begins : begins_of (collected_of s) id ≡ true → receive_of s mid b ≡ counted_of s (stored_of (begun_of id total) position (take len (drop 5 b)))
  begins new = taken ∙ when_true (begins_of (collected_of s) id) _ _ new

  -- the ID that is collected
  module _ (same : begins_of (collected_of s) id ≡ false) where
    goes : receive_of s mid b ≡ goes_on s total position part
    goes = taken ∙ when_false (begins_of (collected_of s) id) _ _ same

    -- same ID, other N: 13
    pub other_total : (s.slots.total ≡ total → ⊥) → receive_of s mid b ≡ stays_of s (Err OtherPacket)
    other_total n = goes ∙ when_true (not (eqb s.slots.total total)) (stays_of s (Err OtherPacket)) _ (ap not (ne_eqb s.slots.total total n))

    -- the same N
    module _ (one : s.slots.total ≡ total) where
      fits : receive_of s mid b
          ≡ when (eqb (get_or s.slots.lens position 0) 0) (counted_of s (stored_of (collected_of s) position part))
          (when (same_of (slot_of (collected_of s) position) part) (stays_of s (Ok Repeat)) (stays_of s (Err OtherPacket)))
      fits = goes ∙ when_false (not (eqb s.slots.total total)) (stays_of s (Err OtherPacket)) _ (ap not (eq-eqb s.slots.total total one))

      -- at a position that isn't held the packet goes in
      pub goes_in : get_or s.slots.lens position 0 ≡ 0
          → receive_of s mid b ≡ counted_of s (stored_of (collected_of s) position (take len (drop 5 b)))
      goes_in free = fits ∙ when_true (eqb (get_or s.slots.lens position 0) 0) _ _ (eq-eqb (get_or s.slots.lens position 0) 0 free)

      held : (get_or s.slots.lens position 0 ≡ 0 → ⊥)
          → receive_of s mid b ≡ when (same_of (slot_of (collected_of s) position) part) (stays_of s (Ok Repeat)) (stays_of s (Err OtherPacket))
      held there = fits ∙ when_false (eqb (get_or s.slots.lens position 0) 0) _ _ (ne_eqb (get_or s.slots.lens position 0) 0 there)

      -- position already held: equal data gives Repeat
      pub again : (get_or s.slots.lens position 0 ≡ 0 → ⊥) → slot_of (collected_of s) position ≡ take len (drop 5 b)
          → receive_of s mid b ≡ stays_of s (Ok Repeat)
      again there equal =
          held there
          ∙ when_true (same_of (slot_of (collected_of s) position) part) _ _ (ap (λ (xs : List ℕ). same_of xs part) equal ∙ equal_same part)

      -- position already held: other data gives 13
      pub differs : (get_or s.slots.lens position 0 ≡ 0 → ⊥) → (slot_of (collected_of s) position ≡ take len (drop 5 b) → ⊥)
          → receive_of s mid b ≡ stays_of s (Err OtherPacket)
      differs there unequal =
          held there
          ∙ when_false (same_of (slot_of (collected_of s) position) part) _ _ (other_same (slot_of (collected_of s) position) part unequal)
