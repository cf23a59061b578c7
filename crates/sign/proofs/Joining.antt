-- Bytes that come to a record: a free position of its collection, what is read of them, and the record after what is heard of them.
use Prim.Native.Nat.{ℕ}
use mathlib.Core.List.{List}
use mathlib.Core.Bool.{Bool, true, false, not}
use mathlib.Core.Path.{◌≡◌, refl, sym, ap, ◌∙◌}
use lib.Dec.{eqb, leb}
use lib.ListN.{get_or, take, drop}
use Rattle.basis.specs.Choice.{when, ◌and◌}
use Rattle.basis.proofs.Choices.{when_true, when_false}
use Rattle.std.specs.Prelude.{Result, Ok, Err}
use Rattle.refusal.specs.declared.Refusal.TheVariants.{Busy, OtherPacket, Unsound, ForbiddenMid}
use Rattle.refusal.specs.declared.Refusal.{Refusal}
use Rattle.completed.specs.Completed.{has_of}
use Rattle.collect.specs.Slots.{Collection, held_of, same_of, begun_of, stored_of}
use Rattle.collect.proofs.Sounds.{sound_slots}
use Rattle.packet.specs.Mid.{is_forbidden}
use Rattle.reader.specs.Read.{read_of}
use Rattle.reader.proofs.Guard.{read_stops}
use Rattle.reader.specs.declared.read.Packet.{Packet}
use Rattle.reader.specs.declared.read.Packet.TheVariants.{Query as QueryRead, Reset as ResetRead, Normal}
use Rattle.machine.specs.Sound.{sound_of as run_sound}
use Rattle.hear.specs.Hear.{heard_of as heard_by, hear_of}
use Rattle.hear.specs.Join.{Left, slot_of, begins_of, join_by, stay_of, whole_of, count_of, Right, Open}
use Rattle.hear.specs.declared.Outcome.{Outcome}
use Rattle.hear.specs.declared.Outcome.TheVariants.{Repeat, Stored}
use Rattle.hear.proofs.Joining.{into_open}
use Rattle.hear.proofs.Hears.{framed_hears, unframed_hears}
use Rattle.sign.specs.Sound.{collected_of, framed_of, sound_of}
use Rattle.sign.specs.Join.{sign_of, stays_of, stores_of, release_of, released_of, counted_of, join_of}
use Rattle.sign.specs.Reset.{fresh_of}
use Rattle.sign.specs.Receive.{behind_of, heard_of, receive_of}
use Rattle.sign.specs.declared.Sign.{Sign}
use Rattle.sign.specs.declared.Received.{Received}
use Rattle.sign.proofs.Sounds.{ready_collected, sound_framed}

-- a free position takes a right packet
pub goes_open : (s : Sign) (total position len : ℕ) → sound_of s ≡ true → s.run.len ≡ 0 → s.slots.total ≡ total → Right total position len
    → get_or s.slots.lens position 0 ≡ 0 → Open (collected_of s) position len
goes_open s total position len e ready =
    into_open (collected_of s) total position len (sound_slots s.completed (collected_of s) (ready_collected s e ready))

-- bytes that come to a sound record are judged by what is read of them
pub sound_receives : (s : Sign) (mid : ℕ) (b : List ℕ) → sound_of s ≡ true → receive_of s mid b ≡ heard_of s b (read_of mid b)
unfolding receive_of
sound_receives s mid b e = when_true (sound_of s) (heard_of s b (read_of mid b)) (stays_of s (Err Unsound)) e

pub unsound_receives : (s : Sign) (mid : ℕ) (b : List ℕ) → sound_of s ≡ false → receive_of s mid b ≡ stays_of s (Err Unsound)
unfolding receive_of
unsound_receives s mid b e = when_false (sound_of s) (heard_of s b (read_of mid b)) (stays_of s (Err Unsound)) e

-- and to a sign of a forbidden MID they are 19, whatever they are
pub forbidden_receives : (s : Sign) (mid : ℕ) (b : List ℕ) → sound_of s ≡ true → is_forbidden mid ≡ true → receive_of s mid b ≡ stays_of s (Err ForbiddenMid)
forbidden_receives s mid b sound e = sound_receives s mid b sound ∙ ap (heard_of s b) (read_stops mid b e)

-- the record after what was heard
module _ (s : Sign) where
  abbrev pub after : Left → Received
  after l = behind_of l.outcome (sign_of l.completed l.collection s.run)

  abbrev stay : Result Outcome Refusal → Left
  stay o = stay_of s.completed (collected_of s) o

  after_count : (c : Collection) → after (count_of s.completed c) ≡ counted_of s c
  unfolding release_of begun_of
  after_count c = go (leb c.total (held_of c.lens))
    where
      go : (t : Bool) → after (when t (whole_of s.completed c) (stay_of s.completed c (Ok Stored))) ≡ when t (released_of s c) (stores_of s c)
      go true = refl
      go false = refl

  after_join : (id total position : ℕ) (part : List ℕ)
      → after (join_by stay (count_of s.completed) s.completed (collected_of s) s.run.len id total position part) ≡ join_of s id total position part
  unfolding join_of
  after_join id total position part =
      go (has_of s.completed id) (eqb s.run.len 0) (begins_of c id) (eqb c.total total) (eqb (get_or c.lens position 0) 0) (same_of (slot_of c position) part)
    where
      c : Collection
      c = collected_of s

      go : (t u v w x y : Bool)
          → after
          (when t (stay (Ok Repeat))
          (when (not u) (stay (Err Busy))
          (when v (count_of s.completed (stored_of (begun_of id total) position part))
          (when (not w) (stay (Err OtherPacket))
          (when x (count_of s.completed (stored_of c position part)) (when y (stay (Ok Repeat)) (stay (Err OtherPacket))))))))
          ≡ when t (stays_of s (Ok Repeat))
          (when (not u) (stays_of s (Err Busy))
          (when v (counted_of s (stored_of (begun_of id total) position part))
          (when (not w) (stays_of s (Err OtherPacket))
          (when x (counted_of s (stored_of c position part)) (when y (stays_of s (Ok Repeat)) (stays_of s (Err OtherPacket)))))))
      go true u v w x y = refl
      go false false v w x y = refl
      go false true true w x y = after_count (stored_of (begun_of id total) position part)
      go false true false false x y = refl
      go false true false true true y = after_count (stored_of c position part)
      go false true false true false true = refl
      go false true false true false false = refl

  after_read : (b : List ℕ) (x : Result Packet Refusal) → after (heard_by s.completed (collected_of s) s.run.len b x) ≡ heard_of s b x
  unfolding fresh_of
  after_read b (Ok QueryRead) = refl
  after_read b (Ok ResetRead) = refl
  after_read b (Ok (Normal id total position len)) = after_join id total position (take len (drop 5 b))
  after_read b (Err e) = refl

-- a record whose run is sound receives what is heard of the rest of it
pub received_is : (s : Sign) (mid : ℕ) (b : List ℕ) (l : Left) (r : Received) → run_sound s.room s.run ≡ true
    → l ≡ hear_of s.completed (collected_of s) s.run.len mid b
    → r ≡ after s l
    → r ≡ receive_of s mid b
received_is s mid b l r run el er = er ∙ ap (after s) el ∙ go (framed_of s) refl
  where
    sound : sound_of s ≡ framed_of s
    sound = sound_framed s ∙ ap (λ (t : Bool). framed_of s and t) run ∙ whole (framed_of s)
      where
        whole : (t : Bool) → t and true ≡ t
        whole true = refl
        whole false = refl

    go : (t : Bool) → framed_of s ≡ t → after s (hear_of s.completed (collected_of s) s.run.len mid b) ≡ receive_of s mid b
    go true e =
        ap (after s) (framed_hears s.completed (collected_of s) s.run.len mid b e)
        ∙ after_read s b (read_of mid b)
        ∙ sym (sound_receives s mid b (sound ∙ e))
    go false e =
        ap (after s) (unframed_hears s.completed (collected_of s) s.run.len mid b e) ∙ sym (unsound_receives s mid b (sound ∙ e))

-- a record whose run is not sound receives nothing
pub unsound_run : (s : Sign) (mid : ℕ) (b : List ℕ) → run_sound s.room s.run ≡ false → receive_of s mid b ≡ stays_of s (Err Unsound)
unsound_run s mid b e = unsound_receives s mid b (sound_framed s ∙ ap (λ (t : Bool). framed_of s and t) e ∙ none (framed_of s))
  where
    none : (t : Bool) → t and false ≡ false
    none true = refl
    none false = refl
