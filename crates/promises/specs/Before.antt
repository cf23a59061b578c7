-- The calls for C that take a MID, without the guard of C-15: N251, N16 and N252 in the order that N0 had before it. They
-- are those of version 1.1, but that a sign knows four completed IDs, and the image has room for them (C-23).
use Rattle.std.specs.Prelude.{ℕ, Bool, List, [], ◌∷◌, ◌≡◌, Err}
use Rattle.basis.specs.Bytes.{laid}
use Rattle.basis.specs.Choice.{when}
use Rattle.basis.specs.Rows.{Row}
use Rattle.refusal.specs.declared.Refusal.TheVariants.{Unsound}
use Rattle.packet.specs.Mid.{Allowed, mid_row}
use Rattle.packet.specs.Write.{short_by}
use Rattle.reader.specs.Read.{lowest_of, told_of as read_told}
use Rattle.reply.specs.Reply.{heard_from, told_of as status_told}
use Rattle.hear.specs.Hear.{told_of as outcome_told}
use Rattle.sign.specs.Join.{stays_of}
use Rattle.sign.specs.Receive.{heard_of}
use Rattle.sign.specs.Sound.{sound_of}
use Rattle.sign.specs.Tell.{says_of, told_rows, says_rows}
use Rattle.sign.specs.declared.Sign.{Sign}
use Rattle.sign.specs.declared.Received.{Received}
use Rattle.image.specs.Layout.{image_of, record_of}
use Rattle.words.specs.Words.{words_of}
use Rattle.words.specs.Told.{answer_row, first_or, told_in}
use Rattle.words.specs.Says.{received_bytes}
use Rattle.cabi.specs.Calls.{Tells, image_row, guarded, kept_of, read_no, read_answer, reply_no, reply_answer, receive_no, receive_image, receive_answer}

-- a receive of a record
abbrev pub received_before : Sign → ℕ → List ℕ → Received
received_before s mid b = when (sound_of s) (heard_of s b (lowest_of mid b)) (stays_of s (Err Unsound))

-- reading a packet, and reading a reply
abbrev pub read_no_before : ℕ → (bytes answer : List ℕ) → ℕ
read_no_before mid bytes answer = first_or (answer_row 20 answer ∷ []) (read_told (lowest_of mid bytes)).number

abbrev pub read_answer_before : ℕ → (bytes answer : List ℕ) → List ℕ
read_answer_before mid bytes answer = told_in 20 (words_of (read_told (lowest_of mid bytes)).values) answer

abbrev pub reply_no_before : ℕ → (bytes answer : List ℕ) → ℕ
reply_no_before mid bytes answer = first_or (answer_row 12 answer ∷ []) (status_told (heard_from mid bytes)).number

abbrev pub reply_answer_before : ℕ → (bytes answer : List ℕ) → List ℕ
reply_answer_before mid bytes answer = told_in 12 (words_of (status_told (heard_from mid bytes)).values) answer

-- a receive, by what it makes of the record
abbrev pub receive_no_before : (image answer : List ℕ) → Received → ℕ
receive_no_before image answer x = first_or (guarded image (answer_row 100 answer ∷ [])) (outcome_told x.outcome).number

abbrev pub receive_image_before : (image answer : List ℕ) → Received → List ℕ
receive_image_before image answer x = kept_of (receive_no_before image answer x) image (image_of x.sign)

abbrev pub receive_answer_before : (image answer : List ℕ) → Received → List ℕ
receive_answer_before image answer x = kept_of (receive_no_before image answer x) answer (laid (received_bytes x.outcome x.body) answer)

-- with a MID that is not forbidden each call answers as without the guard; a writer's rows are those after the guard
pub record AgreeForC : Type 0 where
  pub read_no_lem : (mid : ℕ) (bytes answer : List ℕ) → Allowed mid → read_no mid bytes answer ≡ read_no_before mid bytes answer
  pub read_answer_lem : (mid : ℕ) (bytes answer : List ℕ) → Allowed mid → read_answer mid bytes answer ≡ read_answer_before mid bytes answer
  pub reply_no_lem : (mid : ℕ) (bytes answer : List ℕ) → Allowed mid → reply_no mid bytes answer ≡ reply_no_before mid bytes answer
  pub reply_answer_lem : (mid : ℕ) (bytes answer : List ℕ) → Allowed mid → reply_answer mid bytes answer ≡ reply_answer_before mid bytes answer
  pub receive_no_lem : (image : List ℕ) (mid : ℕ) (bytes answer : List ℕ) → Allowed mid
      → receive_no image mid bytes answer ≡ receive_no_before image answer (received_before (record_of image) mid bytes)
  pub receive_image_lem : (image : List ℕ) (mid : ℕ) (bytes answer : List ℕ) → Allowed mid
      → receive_image image mid bytes answer ≡ receive_image_before image answer (received_before (record_of image) mid bytes)
  pub receive_answer_lem : (image : List ℕ) (mid : ℕ) (bytes answer : List ℕ) → Allowed mid
      → receive_answer image mid bytes answer ≡ receive_answer_before image answer (received_before (record_of image) mid bytes)
  pub writes : (mid : ℕ) (rows : List Row) (bytes out : List ℕ) (r : ℕ) (after : List ℕ) → Allowed mid → Tells (mid_row mid ∷ rows) bytes out r after
      → Tells rows bytes out r after
  pub replies : (image : List ℕ) (mid : ℕ) (sink : Bool) (out : List ℕ) (r : ℕ) (after : List ℕ) → Allowed mid
      → Tells (image_row image ∷ says_rows (record_of image) mid sink out) (says_of (record_of image) mid sink) out r after
      → Tells (image_row image ∷ told_rows (record_of image) (short_by (says_of (record_of image) mid sink) out ∷ [])) (says_of (record_of image) mid sink) out r after
