-- The sign's reply to a query: what it may carry (W10), how it is read (W12, N19, N35), and what refuses to write it (W18).
use Rattle.std.specs.Prelude.{ℕ, ◌%◌, List, [], ◌∷◌, Bool, true, false, not, length, get_or, eqb, leb, Option, Some, None, Result, Ok, Err}
use Rattle.basis.specs.Bytes.{sum}
use Rattle.basis.specs.Choice.{when, ◌and◌, ◌or◌}
use Rattle.basis.specs.Rows.{Row, ◌if◌}
use Rattle.basis.specs.Told.{Told, flag_of}
use Rattle.refusal.specs.Refusal.{told_by}
use Rattle.refusal.specs.declared.Refusal.{Refusal}
use Rattle.refusal.specs.declared.Refusal.TheVariants.{NoReply}
use Rattle.packet.specs.Mid.{mid_or}
use Rattle.packet.specs.Wire.{turned, reply_of}
use Rattle.packet.specs.Write.{short_by}
use Rattle.reply.specs.declared.Status.{Status}

-- last ID 0 to 3Fh or 41h
abbrev pub is_last : ℕ → Bool
is_last id = leb id 0x3F or eqb id 0x41

-- the frame of the eight bytes: length, sum, turned MID, 7Fh, 8, and 00h before the checksum
abbrev pub is_reply : ℕ → List ℕ → Bool
is_reply mid b =
    eqb (length b) 8
    and eqb (sum b % 256) 0
    and eqb (get_or b 0 0) (turned mid)
    and eqb (get_or b 1 0) 0x7F
    and eqb (get_or b 2 0) 8
    and eqb (get_or b 6 0) 0

-- the three bytes that tell: last ID, `B` or `R`, `S` or `F`
abbrev pub is_told : ℕ → ℕ → ℕ → Bool
is_told last state aux = is_last last and (eqb state 0x42 or eqb state 0x52) and (eqb aux 0x53 or eqb aux 0x46)

-- what one letter of two says: the first yes, the other no
abbrev pub said_by : (one other letter : ℕ) → Option Bool
said_by one other letter = when (eqb letter one) (Some true) (when (eqb letter other) (Some false) None)

-- a reply that tells these three
abbrev pub status : (last : ℕ) → (busy sink : Bool) → Result Status Refusal
status last busy sink = Ok (record { last = last; busy = busy; sink = sink })

abbrev pub status_of : ℕ → ℕ → ℕ → Result Status Refusal
status_of last state aux = when (is_told last state aux) (status last (eqb state 0x42) (eqb aux 0x53)) (Err NoReply)

-- what the sender hears of a sign whose MID is not judged: 35 for all but a reply of the sign with this MID
unfoldable pub heard_from : ℕ → List ℕ → Result Status Refusal
heard_from mid b = when (is_reply mid b) (status_of (get_or b 3 0) (get_or b 4 0) (get_or b 5 0)) (Err NoReply)

-- what the sender hears: 19 first, for a forbidden MID
unfoldable pub heard_of : ℕ → List ℕ → Result Status Refusal
heard_of mid b = mid_or mid (heard_from mid b)

-- the refusals of the reply's writer, where its MID is not judged: an ID that no sign completes, or no room
abbrev pub reply_rows : ℕ → ℕ → Bool → Bool → List ℕ → List Row
reply_rows mid last busy sink out = 32 if not (is_last last) ∷ short_by (reply_of mid last busy sink) out ∷ []

-- the answer in the rules' numbers: last ID, whether Busy, whether AUX reads sink (W11)
abbrev pub told_of : Result Status Refusal → Told
told_of = told_by (λ s. s.last ∷ flag_of s.busy ∷ flag_of s.sink ∷ [])
