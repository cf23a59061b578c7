-- What stands on the wire, byte by byte: rules W1 to W7, W10, and W14 to W16.
use Rattle.std.specs.Prelude.{ℕ, zero, suc, ◌+◌, ◌-◌, ◌*◌, ◌/◌, ◌%◌, Bool, List, [], ◌∷◌, ◌++◌, length, take, drop, ◌==◌}
use Rattle.basis.specs.Bytes.{sum}
use Rattle.basis.specs.Choice.{when}

-- the byte that makes the sum of these bytes and itself 0 modulo 256
abbrev pub check_of : List ℕ → ℕ
check_of front = (256 - sum front % 256) % 256

-- every packet and reply ends so: 00h, then the checksum
abbrev pub sealed : List ℕ → List ℕ
sealed front = front ++ 0 ∷ check_of front ∷ []

-- packet total N in the high four bits, position in the low four
abbrev pub fifth_of : ℕ → ℕ → ℕ
fifth_of total position = 16 * total + position

-- MID; 7Fh; count of all bytes; transmission ID; total and position; data
abbrev pub front_of : ℕ → ℕ → ℕ → List ℕ → List ℕ
front_of mid id fifth body = mid ∷ 0x7F ∷ (length body + 7) ∷ id ∷ fifth ∷ body

-- a whole packet
unfoldable pub packet_of : ℕ → ℕ → ℕ → List ℕ → List ℕ
packet_of mid id fifth body = sealed (front_of mid id fifth body)

-- ID 40h asks for the status, 41h resets; both carry no data, and their fifth byte is 10h
abbrev pub query_of : ℕ → List ℕ
query_of mid = packet_of mid 0x40 0x10 []

abbrev pub reset_of : ℕ → List ℕ
reset_of mid = packet_of mid 0x41 0x10 []

-- N is the body's length over 14, rounded up
abbrev pub total_of : List ℕ → ℕ
total_of body = (length body + 13) / 14

-- the data of the packet at a position: 14 bytes, or what is left for the last one
unfoldable pub part_of : List ℕ → ℕ → List ℕ
part_of body position = take 14 (drop (14 * position) body)

-- one packet of a body
abbrev pub packet_at : ℕ → ℕ → List ℕ → ℕ → List ℕ
packet_at mid id body position = packet_of mid id (fifth_of (total_of body) position) (part_of body position)

-- the first packets of a body, each behind the one before
unfoldable pub packets_of : ℕ → ℕ → List ℕ → ℕ → List ℕ
packets_of mid id body zero = []
packets_of mid id body (suc n) = packets_of mid id body n ++ packet_at mid id body n

-- the whole transmission, back to back
abbrev pub transmission_of : ℕ → ℕ → List ℕ → List ℕ
transmission_of mid id body = packets_of mid id body (total_of body)

-- a MID with its lowest bit turned
abbrev pub turned : ℕ → ℕ
turned mid = when (mid % 2 == 0) (mid + 1) (mid - 1)

-- `R` for Ready, `B` for Busy
abbrev pub state_of : Bool → ℕ
state_of busy = when busy 0x42 0x52

-- `S` for sink, `F` for float
abbrev pub aux_of : Bool → ℕ
aux_of sink = when sink 0x53 0x46

-- the sign's answer to a query: the turned MID, 7Fh, 8, last ID, state, AUX, 00h, checksum
unfoldable pub reply_of : ℕ → ℕ → Bool → Bool → List ℕ
reply_of mid last busy sink = sealed (turned mid ∷ 0x7F ∷ 8 ∷ last ∷ state_of busy ∷ aux_of sink ∷ [])
