-- The guard for a sign's own MID (N19, C-15): each call that takes one refuses a forbidden MID, after 16 and before all else,
-- and with any other MID answers as it would without the guard.
use Rattle.std.specs.Prelude.{ℕ, Bool, true, false, List, [], ◌∷◌, ◌≡◌, length}
use Rattle.basis.specs.Rows.{Row}
use Rattle.basis.specs.Told.{no}
use Rattle.packet.specs.Mid.{is_forbidden, Allowed, mid_row}
use Rattle.packet.specs.Wire.{query_of, reset_of, packet_at, transmission_of, reply_of}
use Rattle.packet.specs.Write.{short_by, packet_rows, transmission_rows}
use Rattle.reader.specs.Read.{lowest_of, told_of as read_told}
use Rattle.reply.specs.Reply.{heard_from, reply_rows, told_of as status_told}
use Rattle.sign.specs.Sound.{sound_of}
use Rattle.sign.specs.Tell.{says_of, told_rows, says_rows}
use Rattle.sign.specs.declared.Sign.{Sign}
use Rattle.image.specs.Layout.{image_size, record_of}
use Rattle.cabi.specs.Calls.{Tells, image_row, read_no, read_answer, reply_no, reply_answer, receive_no, receive_image, receive_answer}
use Rattle.promises.specs.Unit.{Wrote, Calls, ours, left_by, heard_in}
use Rattle.promises.specs.Record.{stays}
use Rattle.promises.specs.Before.{received_before}

-- 19, and the lent buffer as it was
abbrev pub denied : List ℕ → Wrote
denied out = record { told = no 19; buffer = out }

-- a forbidden MID is 19 whatever else a call is given, and changes no record and no lent byte; only an unsound record comes before it
pub record Guards {R : Type 0} (u : Calls R) : Type 0 where
  pub read : (mid : ℕ) (b : List ℕ) → is_forbidden mid ≡ true → u.read mid b ≡ no 19
  pub hear : (mid : ℕ) (b : List ℕ) → is_forbidden mid ≡ true → u.hear mid b ≡ no 19
  pub query : (mid : ℕ) (out : List ℕ) → is_forbidden mid ≡ true → u.query mid out ≡ denied out
  pub reset : (mid : ℕ) (out : List ℕ) → is_forbidden mid ≡ true → u.reset mid out ≡ denied out
  pub write : (mid id : ℕ) (body : List ℕ) (position : ℕ) (out : List ℕ) → is_forbidden mid ≡ true → u.write mid id body position out ≡ denied out
  pub transmit : (mid id : ℕ) (body out : List ℕ) → is_forbidden mid ≡ true → u.transmit mid id body out ≡ denied out
  pub answer : (mid last : ℕ) (busy sink : Bool) (out : List ℕ) → is_forbidden mid ≡ true → u.answer mid last busy sink out ≡ denied out
  pub receive : (r : R) → sound_of (u.holds r) ≡ true → (mid : ℕ) (b : List ℕ) → is_forbidden mid ≡ true → u.receive r mid b ≡ stays r (no 19)
  pub reply : (r : R) → sound_of (u.holds r) ≡ true → (mid : ℕ) (sink : Bool) (out : List ℕ) → is_forbidden mid ≡ true → u.reply r mid sink out ≡ denied out

-- the same of the calls for C: 251 and 16 come before 19, and 19 before 252 and all else; image and lent bytes stay
pub record GuardsForC : Type 0 where
  pub read_no_lem : (mid : ℕ) (bytes answer : List ℕ) → is_forbidden mid ≡ true → read_no mid bytes answer ≡ 19
  pub read_answer_lem : (mid : ℕ) (bytes answer : List ℕ) → is_forbidden mid ≡ true → read_answer mid bytes answer ≡ answer
  pub reply_no_lem : (mid : ℕ) (bytes answer : List ℕ) → is_forbidden mid ≡ true → reply_no mid bytes answer ≡ 19
  pub reply_answer_lem : (mid : ℕ) (bytes answer : List ℕ) → is_forbidden mid ≡ true → reply_answer mid bytes answer ≡ answer
  pub receive_unsized : (image : List ℕ) (mid : ℕ) (bytes answer : List ℕ) → (length image ≡ image_size → ⊥) → receive_no image mid bytes answer ≡ 251
  pub receive_unsound : (image : List ℕ) (mid : ℕ) (bytes answer : List ℕ) → length image ≡ image_size → sound_of (record_of image) ≡ false
      → receive_no image mid bytes answer ≡ 16
  pub receive_no_lem : (image : List ℕ) (mid : ℕ) (bytes answer : List ℕ) → length image ≡ image_size → sound_of (record_of image) ≡ true → is_forbidden mid ≡ true
      → receive_no image mid bytes answer ≡ 19
  pub receive_image_lem : (image : List ℕ) (mid : ℕ) (bytes answer : List ℕ) → is_forbidden mid ≡ true → receive_image image mid bytes answer ≡ image
  pub receive_answer_lem : (image : List ℕ) (mid : ℕ) (bytes answer : List ℕ) → is_forbidden mid ≡ true → receive_answer image mid bytes answer ≡ answer
  pub writes : (mid : ℕ) (rows : List Row) (bytes out : List ℕ) (r : ℕ) (after : List ℕ) → is_forbidden mid ≡ true
      → Tells (mid_row mid ∷ rows) bytes out r after
      → (r ≡ 19) × (after ≡ out)
  pub replies : (image : List ℕ) (mid : ℕ) (sink : Bool) (out : List ℕ) (r : ℕ) (after : List ℕ) → length image ≡ image_size
      → sound_of (record_of image) ≡ true
      → is_forbidden mid ≡ true
      → Tells (image_row image ∷ says_rows (record_of image) mid sink out) (says_of (record_of image) mid sink) out r after
      → (r ≡ 19) × (after ≡ out)

-- two units that answer alike to every MID that is not forbidden, in each call that takes one
pub record Agree (u v : Calls Sign) : Type 0 where
  pub read : (mid : ℕ) (b : List ℕ) → Allowed mid → u.read mid b ≡ v.read mid b
  pub hear : (mid : ℕ) (b : List ℕ) → Allowed mid → u.hear mid b ≡ v.hear mid b
  pub query : (mid : ℕ) (out : List ℕ) → Allowed mid → u.query mid out ≡ v.query mid out
  pub reset : (mid : ℕ) (out : List ℕ) → Allowed mid → u.reset mid out ≡ v.reset mid out
  pub write : (mid id : ℕ) (body : List ℕ) (position : ℕ) (out : List ℕ) → Allowed mid → u.write mid id body position out ≡ v.write mid id body position out
  pub transmit : (mid id : ℕ) (body out : List ℕ) → Allowed mid → u.transmit mid id body out ≡ v.transmit mid id body out
  pub answer : (mid last : ℕ) (busy sink : Bool) (out : List ℕ) → Allowed mid → u.answer mid last busy sink out ≡ v.answer mid last busy sink out
  pub receive : (s : Sign) (mid : ℕ) (b : List ℕ) → Allowed mid → u.receive s mid b ≡ v.receive s mid b
  pub reply : (s : Sign) (mid : ℕ) (sink : Bool) (out : List ℕ) → Allowed mid → u.reply s mid sink out ≡ v.reply s mid sink out

-- the calls without the guard, which take every MID: those of version 1.1, but that a sign knows four completed IDs (C-23)
abbrev pub unguarded : Calls Sign
unguarded =
    record {
      holds = ours.holds;
      read = λ mid b. read_told (lowest_of mid b);
      hear = λ mid b. status_told (heard_from mid b);
      query = λ mid out. left_by (short_by (query_of mid) out ∷ []) (query_of mid) out;
      reset = λ mid out. left_by (short_by (reset_of mid) out ∷ []) (reset_of mid) out;
      write = λ mid id body position out. left_by (packet_rows mid id body position out) (packet_at mid id body position) out;
      transmit = λ mid id body out. left_by (transmission_rows mid id body out) (transmission_of mid id body) out;
      answer = λ mid last busy sink out. left_by (reply_rows mid last busy sink out) (reply_of mid last busy sink) out;
      judge = ours.judge;
      forecast = ours.forecast;
      power = ours.power;
      receive = λ s mid b. heard_in (received_before s mid b);
      step = ours.step;
      clear = ours.clear;
      reply = λ s mid sink out. left_by (told_rows s (short_by (says_of s mid sink) out ∷ [])) (says_of s mid sink) out;
      copy = ours.copy;
      repeat = ours.repeat;
    }
