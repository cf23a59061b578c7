-- Ours has the guard for a forbidden MID, for C too, and with any other MID it answers as without the guard.
use Prim.Native.Nat.{ℕ}
use mathlib.Core.Bool.{Bool, true, false, not}
use mathlib.Core.List.{List, [], ◌∷◌}
use mathlib.Core.Path.{◌≡◌, refl, sym, ap, ◌∙◌}
use native.Mathlib.Omega.{arith}
use lib.Dec.{eqb, ltb}
use lib.ListN.{length}
use borrow.Author.Tests.{eq-eqb, ne_eqb}
use Rattle.basis.specs.Bytes.{laid}
use Rattle.basis.specs.Choice.{when}
use Rattle.basis.specs.Rows.{Row, ◌if◌, first_of}
use Rattle.basis.proofs.Choices.{when_true, when_false}
use Rattle.std.specs.Prelude.{Result}
use Rattle.refusal.specs.declared.Refusal.{Refusal}
use Rattle.packet.specs.Mid.{is_forbidden, Allowed, mid_row}
use Rattle.packet.specs.Wire.{query_of, reset_of, packet_at, transmission_of, reply_of}
use Rattle.packet.specs.Write.{short_by, packet_rows, transmission_rows, buffer_of, written_of}
use Rattle.packet.proofs.Guards.{mid_stops, mid_passes}
use Rattle.reader.specs.Read.{told_of as read_told}
use Rattle.reader.specs.declared.read.Packet.{Packet}
use Rattle.reader.proofs.Guard.{read_stops, read_passes}
use Rattle.reply.specs.Reply.{reply_rows, told_of as status_told}
use Rattle.reply.specs.declared.Status.{Status}
use Rattle.reply.proofs.Replies.{heard_stops, heard_passes}
use Rattle.sign.specs.Join.{stays_of}
use Rattle.sign.specs.Sound.{sound_of}
use Rattle.sign.specs.Tell.{says_of, says_rows}
use Rattle.sign.proofs.Joining.{forbidden_receives}
use Rattle.image.specs.Layout.{image_size, record_of}
use Rattle.words.specs.Words.{words_of, length_told}
use Rattle.words.specs.Told.{answer_row, first_or, told_in}
use Rattle.cabi.specs.Calls.{Tells, image_row, guarded, kept_of, receive_no}
use Rattle.promises.specs.Unit.{Wrote, ours, left_by, heard_in}
use Rattle.promises.specs.Guard.{denied, Guards, GuardsForC, Agree, unguarded}
use Rattle.promises.proofs.Before.{receives_as_before}

-- what a writer leaves, by the number of its first row
by : (bytes out : List ℕ) → ℕ → Wrote
by bytes out n = record { told = written_of n bytes; buffer = buffer_of n bytes out }

-- a writer behind the guard
stops : (mid : ℕ) (rows : List Row) (bytes out : List ℕ) → is_forbidden mid ≡ true → left_by (mid_row mid ∷ rows) bytes out ≡ denied out
unfolding by
stops mid rows bytes out e = ap (by bytes out) (mid_stops mid rows e)

passes : (mid : ℕ) (rows : List Row) (bytes out : List ℕ) → Allowed mid → left_by (mid_row mid ∷ rows) bytes out ≡ left_by rows bytes out
unfolding by
passes mid rows bytes out e = ap (by bytes out) (mid_passes mid rows e)

pub ours_guards : Guards ours
unfolding stays_of by
ours_guards =
    record {
      read = λ mid b e. ap read_told (read_stops mid b e);
      hear = λ mid b e. ap status_told (heard_stops mid b e);
      query = λ mid out e. stops mid (short_by (query_of mid) out ∷ []) (query_of mid) out e;
      reset = λ mid out e. stops mid (short_by (reset_of mid) out ∷ []) (reset_of mid) out e;
      write = λ mid id body position out e. stops mid (packet_rows mid id body position out) (packet_at mid id body position) out e;
      transmit = λ mid id body out e. stops mid (transmission_rows mid id body out) (transmission_of mid id body) out e;
      answer = λ mid last busy sink out e. stops mid (reply_rows mid last busy sink out) (reply_of mid last busy sink) out e;
      receive = λ s sound mid b e. ap heard_in (forbidden_receives s mid b sound e);
      reply = λ s sound mid sink out e.
          let own = short_by (says_of s mid sink) out ∷ [] in
          ap (λ (t : Bool). by (says_of s mid sink) out (first_of (16 if not t ∷ mid_row mid ∷ own))) sound ∙ stops mid own (says_of s mid sink) out e;
    }

-- the number of a call for C, by its guard
stops_or : (mid : ℕ) (rows : List Row) (n : ℕ) → is_forbidden mid ≡ true → first_or (mid_row mid ∷ rows) n ≡ 19
stops_or mid rows n e = when_true (is_forbidden mid) 19 (first_or rows n) e

-- a refusal tells no word, so that the answer stays
silent : (size : ℕ) (answer : List ℕ) → told_in size (words_of []) answer ≡ answer
unfolding words_of laid
silent size answer = go (ltb (length answer) size)
  where
    go : (t : Bool) → when t answer answer ≡ answer
    go true = refl
    go false = refl

-- a call on a sign, in an image of the right size, of another size, and with an unsound record
module _ (image : List ℕ) (rows : List Row) (n : ℕ) where
  abbrev size : Bool
  size = not (eqb (length image) image_size)

  unsized : (length image ≡ image_size → ⊥) → first_or (guarded image rows) n ≡ 251
  unsized h = when_true size 251 (when (not (sound_of (record_of image))) 16 (first_or rows n)) (ap not (ne_eqb (length image) image_size h))

  sized : length image ≡ image_size → first_or (guarded image rows) n ≡ when (not (sound_of (record_of image))) 16 (first_or rows n)
  sized h = when_false size 251 (when (not (sound_of (record_of image))) 16 (first_or rows n)) (ap not (eq-eqb (length image) image_size h))

-- what a receive of a forbidden MID is told, whatever the image is
module _ (image : List ℕ) (mid : ℕ) (bytes answer : List ℕ) (e : is_forbidden mid ≡ true) where
  never : receive_no image mid bytes answer ≡ 0 → ⊥
  never z = go (eqb (length image) image_size) (sound_of (record_of image)) (sym low ∙ z)
    where
      low : receive_no image mid bytes answer ≡ when (not (eqb (length image) image_size)) 251 (when (not (sound_of (record_of image))) 16 19)
      low =
          ap (λ (k : ℕ). when (not (eqb (length image) image_size)) 251 (when (not (sound_of (record_of image))) 16 k)) (stops_or mid (answer_row 100 answer ∷ []) _ e)

      go : (t u : Bool) → ◌≡◌ {A = ℕ} (when (not t) 251 (when (not u) 16 19)) 0 → ⊥
      go true true w = omega arith
      go true false w = omega arith
      go false u w = omega arith

  kept : (as_was next : List ℕ) → kept_of (receive_no image mid bytes answer) as_was next ≡ as_was
  kept as_was next = when_false (eqb (receive_no image mid bytes answer) 0) next as_was (ne_eqb (receive_no image mid bytes answer) 0 never)

-- a writer for C by the number of its first row
by_19 : (rows : List Row) (bytes out : List ℕ) (r : ℕ) (after : List ℕ) → first_of rows ≡ 19 → Tells rows bytes out r after → (r ≡ 19) × (after ≡ out)
by_19 rows bytes out r after e t =
    (t.told ∙ ap (λ (k : ℕ). length_told (written_of k bytes)) e, t.left ∙ ap (λ (k : ℕ). buffer_of k bytes out) e)

pub guards_for_c : GuardsForC
guards_for_c =
    record {
      read_no_lem = λ mid bytes answer e. stops_or mid (answer_row 20 answer ∷ []) _ e;
      read_answer_lem = λ mid bytes answer e. ap (λ (x : Result Packet Refusal). told_in 20 (words_of (read_told x).values) answer) (read_stops mid bytes e) ∙ silent 20 answer;
      reply_no_lem = λ mid bytes answer e. stops_or mid (answer_row 12 answer ∷ []) _ e;
      reply_answer_lem = λ mid bytes answer e. ap (λ (x : Result Status Refusal). told_in 12 (words_of (status_told x).values) answer) (heard_stops mid bytes e) ∙ silent 12 answer;
      receive_unsized = λ image mid bytes answer h. unsized image (mid_row mid ∷ answer_row 100 answer ∷ []) _ h;
      receive_unsound = λ image mid bytes answer h ill.
          sized image (mid_row mid ∷ answer_row 100 answer ∷ []) _ h ∙ when_true (not (sound_of (record_of image))) 16 _ (ap not ill);
      receive_no_lem = λ image mid bytes answer h sound e.
          sized image (mid_row mid ∷ answer_row 100 answer ∷ []) _ h
          ∙ when_false (not (sound_of (record_of image))) 16 _ (ap not sound)
          ∙ stops_or mid (answer_row 100 answer ∷ []) _ e;
      receive_image_lem = λ image mid bytes answer e. kept image mid bytes answer e image _;
      receive_answer_lem = λ image mid bytes answer e. kept image mid bytes answer e answer _;
      writes = λ mid rows bytes out r after e. by_19 (mid_row mid ∷ rows) bytes out r after (mid_stops mid rows e);
      replies = λ image mid sink out r after h sound e.
          let own = short_by (says_of (record_of image) mid sink) out ∷ [] in
          by_19 (image_row image ∷ says_rows (record_of image) mid sink out) (says_of (record_of image) mid sink) out r after
          (when_false (not (eqb (length image) image_size)) 251 _ (ap not (eq-eqb (length image) image_size h))
          ∙ when_false (not (sound_of (record_of image))) 16 _ (ap not sound)
          ∙ mid_stops mid own e);
    }

-- with any other MID every call answers as without the guard
pub ours_agrees : Agree ours unguarded
unfolding by
ours_agrees =
    record {
      read = λ mid b e. ap read_told (read_passes mid b e);
      hear = λ mid b e. ap status_told (heard_passes mid b e);
      query = λ mid out e. passes mid (short_by (query_of mid) out ∷ []) (query_of mid) out e;
      reset = λ mid out e. passes mid (short_by (reset_of mid) out ∷ []) (reset_of mid) out e;
      write = λ mid id body position out e. passes mid (packet_rows mid id body position out) (packet_at mid id body position) out e;
      transmit = λ mid id body out e. passes mid (transmission_rows mid id body out) (transmission_of mid id body) out e;
      answer = λ mid last busy sink out e. passes mid (reply_rows mid last busy sink out) (reply_of mid last busy sink) out e;
      receive = λ s mid b e. ap heard_in (receives_as_before s mid b e);
      reply = λ s mid sink out e.
          let own = short_by (says_of s mid sink) out ∷ [] in
          ap (λ (n : ℕ). by (says_of s mid sink) out (when (not (sound_of s)) 16 n)) (mid_passes mid own e);
    }
