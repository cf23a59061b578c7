-- What each call for C answers, makes of the image, and writes into the lent answer: N251, N16, N19, N252 and their order
-- in N0.
-- An answer's numbers are `told_of` of its own crate (P13), and `words` has how they are laid.
use Rattle.std.specs.Prelude.{ℕ, ◌+◌, ◌*◌, not, List, [], ◌∷◌, ◌≡◌, eqb, length, Option, Some, None}
use Rattle.basis.specs.Bytes.{laid}
use Rattle.basis.specs.Choice.{when}
use Rattle.basis.specs.Rows.{Row, ◌if◌, first_of}
use Rattle.packet.specs.Mid.{mid_row}
use Rattle.packet.specs.Write.{buffer_of, written_of}
use Rattle.reader.specs.Read.{read_of, told_of as read_told}
use Rattle.reply.specs.Reply.{heard_of, told_of as status_told}
use Rattle.reckon.specs.Forecast.{forecast_of, told_of as forecast_told}
use Rattle.hear.specs.Hear.{told_of as outcome_told}
use Rattle.machine.specs.Step.{told_of as answer_told}
use Rattle.sign.specs.declared.Sign.{Sign}
use Rattle.sign.specs.Reset.{power_on, cleared_of}
use Rattle.sign.specs.Receive.{receive_of}
use Rattle.sign.specs.Step.{step_of}
use Rattle.sign.specs.Tell.{told_rows}
use Rattle.image.specs.Layout.{image_size, image_of, record_of}
use Rattle.words.specs.Words.{words_of, length_told}
use Rattle.words.specs.Told.{answer_row, first_or, told_in, foretold_result}
use Rattle.words.specs.Says.{received_bytes}

-- both outcomes of a call that writes these bytes into a lent buffer, or is refused by these rows
pub record Tells (rows : List Row) (bytes out : List ℕ) (result : ℕ) (after : List ℕ) : Type 0 where
  pub told : result ≡ length_told (written_of (first_of rows) bytes)
  pub left : after ≡ buffer_of (first_of rows) bytes out

-- reading a packet, and reading a reply: 19, then 252, then the reader's own number
abbrev pub read_answer : ℕ → (bytes answer : List ℕ) → List ℕ
read_answer mid bytes answer = told_in 20 (words_of (read_told (read_of mid bytes)).values) answer

abbrev pub read_no : ℕ → (bytes answer : List ℕ) → ℕ
read_no mid bytes answer = first_or (mid_row mid ∷ answer_row 20 answer ∷ []) (read_told (read_of mid bytes)).number

abbrev pub reply_answer : ℕ → (bytes answer : List ℕ) → List ℕ
reply_answer mid bytes answer = told_in 12 (words_of (status_told (heard_of mid bytes)).values) answer

abbrev pub reply_no : ℕ → (bytes answer : List ℕ) → ℕ
reply_no mid bytes answer = first_or (mid_row mid ∷ answer_row 12 answer ∷ []) (status_told (heard_of mid bytes)).number

-- forecasting a body
abbrev pub forecast_result : (body : List ℕ) → (pace each : ℕ) → (answer : List ℕ) → ℕ
forecast_result body pace each answer = first_or (answer_row 24 answer ∷ []) (foretold_result (forecast_of body pace each))

abbrev pub forecast_answer : (body : List ℕ) → (pace each : ℕ) → (answer : List ℕ) → List ℕ
forecast_answer body pace each answer = told_in 24 (words_of (forecast_told (forecast_of body pace each)).values) answer

-- 251: an image of another size
abbrev pub image_row : List ℕ → Row
image_row image = 251 if not (eqb (length image) image_size)

-- the record in a lent image, none where it has another size
abbrev pub loaded_of : List ℕ → Option Sign
loaded_of image = when (not (eqb (length image) image_size)) None (Some (record_of image))

-- the guard of a call on a sign: 251, then 16 for a record that is not sound, before the call's own rows
abbrev pub guarded : List ℕ → List Row → List Row
guarded image rows = image_row image ∷ told_rows (record_of image) rows

-- what a call leaves of a lent list: as it was where the call is refused, 0 being yes
abbrev pub kept_of : ℕ → (as_was next : List ℕ) → List ℕ
kept_of number as_was next = when (eqb number 0) next as_was

-- a receive
abbrev pub receive_no : (image : List ℕ) → ℕ → (bytes answer : List ℕ) → ℕ
receive_no image mid bytes answer = first_or (guarded image (mid_row mid ∷ answer_row 100 answer ∷ [])) (outcome_told (receive_of (record_of image) mid bytes).outcome).number

-- the image after it: that of the next record
abbrev pub receive_image : (image : List ℕ) → ℕ → (bytes answer : List ℕ) → List ℕ
receive_image image mid bytes answer = kept_of (receive_no image mid bytes answer) image (image_of (receive_of (record_of image) mid bytes).sign)

-- and what is told of it
abbrev pub receive_answer : (image : List ℕ) → ℕ → (bytes answer : List ℕ) → List ℕ
receive_answer image mid bytes answer =
    let x = receive_of (record_of image) mid bytes in
    kept_of (receive_no image mid bytes answer) answer (laid (received_bytes x.outcome x.body) answer)

-- power-on
abbrev pub power_image : List ℕ → List ℕ
power_image image = kept_of (first_of (image_row image ∷ [])) image (image_of power_on)

-- a reset
abbrev pub reset_no : List ℕ → ℕ
reset_no image = first_or (guarded image []) (outcome_told (cleared_of (record_of image)).outcome).number

-- the image after it
abbrev pub reset_image : List ℕ → List ℕ
reset_image image = kept_of (reset_no image) image (image_of (cleared_of (record_of image)).sign)

-- a step
abbrev pub step_no : (image answer : List ℕ) → ℕ
step_no image answer = first_or (guarded image (answer_row 28 answer ∷ [])) (answer_told (step_of (record_of image)).answer).number

-- the image after it
abbrev pub step_image : (image answer : List ℕ) → List ℕ
step_image image answer = kept_of (step_no image answer) image (image_of (step_of (record_of image)).sign)

-- and what is told of it
abbrev pub step_answer : (image answer : List ℕ) → List ℕ
step_answer image answer = kept_of (step_no image answer) answer (laid (words_of (answer_told (step_of (record_of image)).answer).values) answer)

-- a version as one value
abbrev pub version_of : (major minor patch : ℕ) → ℕ
version_of major minor patch = 65536 * major + 256 * minor + patch
