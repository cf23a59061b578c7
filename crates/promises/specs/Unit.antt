-- A message unit: the calls of both ends of the line, as any implementation has them, whatever its record is made of.
-- Every promise is a statement over such a unit, in the numbers and values that `told_of` gives each answer (P13). A MID
-- is the caller's (W8). MIDs, IDs and positions are numbers of any size, as in the definitions; the code's are bytes.
use Rattle.std.specs.Prelude.{ℕ, Bool, List, [], ◌∷◌, get_or, take}
use Rattle.basis.specs.Rows.{Row, first_of}
use Rattle.basis.specs.Told.{Told}
use Rattle.packet.specs.Mid.{mid_row}
use Rattle.packet.specs.Wire.{query_of, reset_of, packet_at, transmission_of, reply_of}
use Rattle.packet.specs.Write.{short_by, packet_rows, transmission_rows, buffer_of, written_of}
use Rattle.reader.specs.Read.{read_of, told_of as read_told}
use Rattle.reply.specs.Reply.{heard_of, reply_rows, told_of as status_told}
use Rattle.judge.specs.Verdict.{judge_of, told_of as verdict_told}
use Rattle.reckon.specs.Forecast.{forecast_of, told_of as forecast_told}
use Rattle.machine.specs.Step.{told_of as answer_told}
use Rattle.hear.specs.Hear.{body_length, told_of as outcome_told}
use Rattle.sign.specs.Receive.{receive_of}
use Rattle.sign.specs.Reset.{power_on, cleared_of}
use Rattle.sign.specs.Step.{step_of}
use Rattle.sign.specs.Tell.{says_of, running_body, says_rows, copy_rows}
use Rattle.sign.specs.declared.Sign.{Sign}
use Rattle.sign.specs.declared.Received.{Received}
use Rattle.sign.specs.declared.Stepped.{Stepped}
use Rattle.sign.specs.declared.Cleared.{Cleared}
use Rattle.repeater.specs.Repeat.{repeat_of}

-- what a writer leaves: its answer, and the lent buffer
pub record Wrote : Type 0 where
  pub told : Told
  pub buffer : List ℕ

-- what a call on a record leaves: its answer, and the next record
pub record Next (R : Type 0) : Type 0 where
  pub told : Told
  pub next : R

-- and what bytes off the line leave: the body too that comes with the answer
pub record Heard (R : Type 0) : Type 0 where
  pub told : Told
  pub next : R
  pub body : List ℕ

pub record Calls (R : Type 0) : Type 0 where
  -- what a record holds: the parts of J1
  pub holds : R → Sign
  -- the two readers
  pub read : (mid : ℕ) (bytes : List ℕ) → Told
  pub hear : (mid : ℕ) (bytes : List ℕ) → Told
  -- the five writers: a query, a reset, one packet of a body, a whole transmission, a reply
  pub query : (mid : ℕ) (out : List ℕ) → Wrote
  pub reset : (mid : ℕ) (out : List ℕ) → Wrote
  pub write : (mid id : ℕ) (body : List ℕ) (position : ℕ) (out : List ℕ) → Wrote
  pub transmit : (mid id : ℕ) (body out : List ℕ) → Wrote
  pub answer : (mid last : ℕ) (busy sink : Bool) (out : List ℕ) → Wrote
  -- a body
  pub judge : List ℕ → Told
  pub forecast : (body : List ℕ) (pace each : ℕ) → Told
  -- a sign
  pub power : R
  pub receive : R → (mid : ℕ) (bytes : List ℕ) → Heard R
  pub step : R → Next R
  pub clear : R → Next R
  pub reply : R → (mid : ℕ) (sink : Bool) (out : List ℕ) → Wrote
  pub copy : R → (out : List ℕ) → Wrote
  -- the driver's repeater
  pub repeat : (body : List ℕ) (place len : ℕ) (standing : List ℕ) → List ℕ

-- the value at a position of an answer
abbrev pub value_at : ℕ → Told → ℕ
value_at i t = get_or t.values i 0

-- what a writer leaves that refuses by these rows and writes these bytes
abbrev pub left_by : List Row → (bytes out : List ℕ) → Wrote
left_by rows bytes out = record { told = written_of (first_of rows) bytes; buffer = buffer_of (first_of rows) bytes out }

-- our answers in the rules' numbers; the body is as long as the outcome says
abbrev pub heard_in : Received → Heard Sign
heard_in r = record { told = outcome_told r.outcome; next = r.sign; body = take (body_length r.outcome) r.body }

abbrev pub stepped_in : Stepped → Next Sign
stepped_in r = record { told = answer_told r.answer; next = r.sign }

abbrev pub cleared_in : Cleared → Next Sign
cleared_in r = record { told = outcome_told r.outcome; next = r.sign }

-- ours
abbrev pub ours : Calls Sign
ours =
    record {
      holds = λ s. s;
      read = λ mid b. read_told (read_of mid b);
      hear = λ mid b. status_told (heard_of mid b);
      query = λ mid out. left_by (mid_row mid ∷ short_by (query_of mid) out ∷ []) (query_of mid) out;
      reset = λ mid out. left_by (mid_row mid ∷ short_by (reset_of mid) out ∷ []) (reset_of mid) out;
      write = λ mid id body position out. left_by (mid_row mid ∷ packet_rows mid id body position out) (packet_at mid id body position) out;
      transmit = λ mid id body out. left_by (mid_row mid ∷ transmission_rows mid id body out) (transmission_of mid id body) out;
      answer = λ mid last busy sink out. left_by (mid_row mid ∷ reply_rows mid last busy sink out) (reply_of mid last busy sink) out;
      judge = λ b. verdict_told (judge_of b);
      forecast = λ b pace each. forecast_told (forecast_of b pace each);
      power = power_on;
      receive = λ s mid b. heard_in (receive_of s mid b);
      step = λ s. stepped_in (step_of s);
      clear = λ s. cleared_in (cleared_of s);
      reply = λ s mid sink out. left_by (says_rows s mid sink out) (says_of s mid sink) out;
      copy = λ s out. left_by (copy_rows s out) (running_body s) out;
      repeat = repeat_of;
    }
