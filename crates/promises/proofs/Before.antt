-- With a MID that is not forbidden the calls for C answer as without the guard.
use Prim.Native.Nat.{ℕ}
use mathlib.Core.Bool.{not}
use mathlib.Core.List.{List, [], ◌∷◌}
use mathlib.Core.Path.{◌≡◌, ap, ◌∙◌}
use lib.Dec.{eqb}
use lib.ListN.{length}
use Rattle.basis.specs.Bytes.{laid}
use Rattle.basis.specs.Choice.{when}
use Rattle.basis.specs.Rows.{Row, first_of}
use Rattle.basis.proofs.Choices.{when_false}
use Rattle.std.specs.Prelude.{Result, Err}
use Rattle.refusal.specs.declared.Refusal.TheVariants.{Unsound}
use Rattle.refusal.specs.declared.Refusal.{Refusal}
use Rattle.packet.specs.Mid.{is_forbidden, Allowed, mid_row}
use Rattle.packet.specs.Write.{short_by, buffer_of, written_of}
use Rattle.packet.proofs.Guards.{mid_passes}
use Rattle.reader.specs.Read.{told_of as read_told}
use Rattle.reader.specs.declared.read.Packet.{Packet}
use Rattle.reader.proofs.Guard.{read_passes}
use Rattle.reply.specs.Reply.{told_of as status_told}
use Rattle.reply.specs.declared.Status.{Status}
use Rattle.reply.proofs.Replies.{heard_passes}
use Rattle.hear.specs.Hear.{told_of as outcome_told}
use Rattle.sign.specs.Join.{stays_of}
use Rattle.sign.specs.Receive.{heard_of, receive_of}
use Rattle.sign.specs.Sound.{sound_of}
use Rattle.sign.specs.Tell.{says_of, says_rows}
use Rattle.sign.specs.declared.Sign.{Sign}
use Rattle.sign.specs.declared.Received.{Received}
use Rattle.image.specs.Layout.{image_size, image_of, record_of}
use Rattle.words.specs.Words.{words_of, length_told}
use Rattle.words.specs.Told.{answer_row, first_or, told_in}
use Rattle.words.specs.Says.{received_bytes}
use Rattle.cabi.specs.Calls.{Tells, image_row, guarded, kept_of, receive_no}
use Rattle.promises.specs.Before.{received_before, receive_no_before, AgreeForC}

-- a receive of a record
pub receives_as_before : (s : Sign) (mid : ℕ) (b : List ℕ) → Allowed mid → receive_of s mid b ≡ received_before s mid b
unfolding receive_of
receives_as_before s mid b e = ap (λ (x : Result Packet Refusal). when (sound_of s) (heard_of s b x) (stays_of s (Err Unsound))) (read_passes mid b e)

-- the number before those of the call itself
passes : (mid : ℕ) (rows : List Row) (n : ℕ) → Allowed mid → first_or (mid_row mid ∷ rows) n ≡ first_or rows n
passes mid rows n e = when_false (is_forbidden mid) 19 (first_or rows n) e

-- and in an image
module _ (image : List ℕ) (mid : ℕ) (bytes answer : List ℕ) (e : Allowed mid) where
  abbrev x : Received
  x = received_before (record_of image) mid bytes

  abbrev y : Received
  y = receive_of (record_of image) mid bytes

  no_as_before : receive_no image mid bytes answer ≡ receive_no_before image answer x
  no_as_before =
      ap (λ (n : ℕ). when (not (eqb (length image) image_size)) 251 (when (not (sound_of (record_of image))) 16 n))
      (passes mid (answer_row 100 answer ∷ []) (outcome_told y.outcome).number e)
      ∙ ap (receive_no_before image answer) (receives_as_before (record_of image) mid bytes e)

  image_as_before : kept_of (receive_no image mid bytes answer) image (image_of y.sign) ≡ kept_of (receive_no_before image answer x) image (image_of x.sign)
  image_as_before =
      ap (λ (n : ℕ). kept_of n image (image_of y.sign)) no_as_before
      ∙ ap (λ (z : Received). kept_of (receive_no_before image answer x) image (image_of z.sign)) (receives_as_before (record_of image) mid bytes e)

  answer_as_before : kept_of (receive_no image mid bytes answer) answer (laid (received_bytes y.outcome y.body) answer)
      ≡ kept_of (receive_no_before image answer x) answer (laid (received_bytes x.outcome x.body) answer)
  answer_as_before =
      ap (λ (n : ℕ). kept_of n answer (laid (received_bytes y.outcome y.body) answer)) no_as_before
      ∙ ap (λ (z : Received). kept_of (receive_no_before image answer x) answer (laid (received_bytes z.outcome z.body) answer)) (receives_as_before (record_of image) mid bytes e)

-- a writer by other rows of the same number
by_rows : (rows rows' : List Row) (bytes out : List ℕ) (r : ℕ) (after : List ℕ) → first_of rows ≡ first_of rows' → Tells rows bytes out r after
    → Tells rows' bytes out r after
by_rows rows rows' bytes out r after e t =
    record {
      told = t.told ∙ ap (λ (n : ℕ). length_told (written_of n bytes)) e;
      left = t.left ∙ ap (λ (n : ℕ). buffer_of n bytes out) e;
    }

pub agrees_for_c : AgreeForC
agrees_for_c =
    record {
      read_no_lem = λ mid bytes answer e.
          passes mid (answer_row 20 answer ∷ []) _ e ∙ ap (λ (z : Result Packet Refusal). first_or (answer_row 20 answer ∷ []) (read_told z).number) (read_passes mid bytes e);
      read_answer_lem = λ mid bytes answer e. ap (λ (z : Result Packet Refusal). told_in 20 (words_of (read_told z).values) answer) (read_passes mid bytes e);
      reply_no_lem = λ mid bytes answer e.
          passes mid (answer_row 12 answer ∷ []) _ e ∙ ap (λ (z : Result Status Refusal). first_or (answer_row 12 answer ∷ []) (status_told z).number) (heard_passes mid bytes e);
      reply_answer_lem = λ mid bytes answer e. ap (λ (z : Result Status Refusal). told_in 12 (words_of (status_told z).values) answer) (heard_passes mid bytes e);
      receive_no_lem = no_as_before;
      receive_image_lem = image_as_before;
      receive_answer_lem = answer_as_before;
      writes = λ mid rows bytes out r after e. by_rows (mid_row mid ∷ rows) rows bytes out r after (mid_passes mid rows e);
      replies = λ image mid sink out r after e.
          let bytes = says_of (record_of image) mid sink in
          let own = short_by bytes out ∷ [] in
          by_rows (image_row image ∷ says_rows (record_of image) mid sink out) (guarded image own) bytes out r after
          (ap (λ (n : ℕ). when (not (eqb (length image) image_size)) 251 (when (not (sound_of (record_of image))) 16 n)) (mid_passes mid own e));
    }
