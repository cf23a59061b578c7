-- Writing: N31 to N34 in the order of W18, where 19 comes first (Mid: `mid_row`), and what a writer lays into the lent
-- buffer (W13 and W15 to W17).
use Rattle.std.specs.Prelude.{◌≡◌, ℕ, zero, suc, ◌+◌, Bool, ltb, leb, List, [], ◌∷◌, length, nat_eq, nat_le, nat_lt, Result, Ok, Err}
use Rattle.basis.specs.Bytes.{laid}
use Rattle.basis.specs.Choice.{when, ◌and◌, ◌or◌, within}
use Rattle.basis.specs.Rows.{Row, ◌if◌, first_of}
use Rattle.basis.specs.Told.{Told, yes, no}
use Rattle.packet.specs.Wire.{total_of, packet_at, transmission_of}
use Rattle.refusal.specs.Refusal.{refusal_of, told_by}
use Rattle.refusal.specs.declared.Refusal.{Refusal}
use Rattle.refusal.specs.declared.Refusal.TheVariants.{WrongBody, WrongId}

-- 31: the body is empty or over 84 bytes
abbrev pub bad_body : List ℕ → Bool
bad_body body = nat_eq (length body) 0 or ltb 84 (length body)

-- the number of a body's packets, or why it cannot be sent under this ID
abbrev pub total_or : ℕ → List ℕ → Result ℕ Refusal
total_or id body = when (bad_body body) (Err WrongBody) (when (nat_lt 0x3F id) (Err WrongId) (Ok (total_of body)))

-- the fields of a normal packet, with the count of its data bytes: rules W3 to W5
abbrev pub right_fields : (id total position count : ℕ) → Bool
right_fields id total position count =
    leb id 0x3F and within 1 count 14 and within 1 total 6 and ltb position total and (nat_eq (position + 1) total or nat_eq count 14)

-- 34: the buffer is shorter than what is to be written
abbrev pub short_by : List ℕ → List ℕ → Row
short_by bytes out = 34 if nat_lt (length out) (length bytes)

-- the refusals of a writer of one packet, where its MID is not judged
abbrev pub packet_rows : ℕ → ℕ → List ℕ → ℕ → List ℕ → List Row
packet_rows mid id body position out =
    31 if bad_body body
    ∷ 32 if nat_lt 0x3F id
    ∷ 33 if nat_le (total_of body) position
    ∷ short_by (packet_at mid id body position) out
    ∷ []

-- the refusals of the writer of a whole transmission, where its MID is not judged
abbrev pub transmission_rows : ℕ → ℕ → List ℕ → List ℕ → List Row
transmission_rows mid id body out = 31 if bad_body body ∷ 32 if nat_lt 0x3F id ∷ short_by (transmission_of mid id body) out ∷ []

-- the answer: the refusal of that number, or how many bytes were written
abbrev pub answer_of : ℕ → List ℕ → Result ℕ Refusal
answer_of zero bytes = Ok (length bytes)
answer_of (suc n) bytes = Err (refusal_of (suc n))

-- the buffer behind the call: untouched by a refusal, or with the bytes laid at its front
abbrev pub buffer_of : ℕ → List ℕ → List ℕ → List ℕ
buffer_of zero bytes out = laid bytes out
buffer_of (suc n) bytes out = out

-- both outcomes of a writer that has these refusals and these bytes to lay
pub record Writes (rows : List Row) (bytes out : List ℕ) (answer : Result ℕ Refusal) (after : List ℕ) : Type 0 where
  pub answered : answer ≡ answer_of (first_of rows) bytes
  pub left : after ≡ buffer_of (first_of rows) bytes out

-- the answer in the rules' numbers: the count of bytes written
abbrev pub told_of : Result ℕ Refusal → Told
told_of = told_by (λ n. n ∷ [])

-- what a writer tells whose refusals give this number: the number, or how many bytes were written
abbrev pub written_of : ℕ → List ℕ → Told
written_of zero bytes = yes (length bytes ∷ [])
written_of (suc n) bytes = no (suc n)
