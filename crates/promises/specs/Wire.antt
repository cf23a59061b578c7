-- The wire: what a packet and a reply are read as, exactly when, and what each writer leaves in any buffer.
-- Rules W9 and W12 for the readers, W13 and W15 to W18 for the writers, W19 for both together, of every MID that is not
-- forbidden (W8). That a forbidden one is 19 is the first row of each writer here, and Guard says it of every call.
use Rattle.std.specs.Prelude.{ℕ, ◌≤◌, ◌<◌, Bool, true, List, [], ◌∷◌, ◌≡◌, length, take, drop, Ok}
use Rattle.basis.specs.Bytes.{Bytes}
use Rattle.basis.specs.Rows.{Row, first_of}
use Rattle.basis.specs.Told.{yes, no}
use Rattle.packet.specs.Mid.{Allowed, mid_row}
use Rattle.packet.specs.Wire.{fifth_of, packet_of, query_of, reset_of, total_of, part_of, packet_at, transmission_of, reply_of}
use Rattle.packet.specs.Write.{right_fields, short_by, packet_rows, transmission_rows, buffer_of, written_of}
use Rattle.reader.specs.Read.{Lowest, told_of as read_told}
use Rattle.reader.specs.declared.read.Packet.TheVariants.{Query, Reset, Normal}
use Rattle.reply.specs.Reply.{is_last, reply_rows, told_of as status_told, status}
use Rattle.promises.specs.Unit.{Wrote, Calls}

-- what a packet is accepted as, exactly when, and the lowest number otherwise
pub record Reads {R : Type 0} (u : Calls R) : Type 0 where
  pub queried : (mid : ℕ) → Allowed mid → u.read mid (query_of mid) ≡ read_told (Ok Query)
  pub query_only : (mid : ℕ) (b : List ℕ) → Bytes b → u.read mid b ≡ read_told (Ok Query) → b ≡ query_of mid
  pub cleared : (mid : ℕ) → Allowed mid → u.read mid (reset_of mid) ≡ read_told (Ok Reset)
  pub reset_only : (mid : ℕ) (b : List ℕ) → Bytes b → u.read mid b ≡ read_told (Ok Reset) → b ≡ reset_of mid
  pub normal : (mid id total position : ℕ) (part : List ℕ) → Allowed mid → right_fields id total position (length part) ≡ true
      → u.read mid (packet_of mid id (fifth_of total position) part) ≡ read_told (Ok (Normal id total position (length part)))
  pub normal_only : (mid : ℕ) (b : List ℕ) (id total position len : ℕ) → Bytes b → u.read mid b ≡ read_told (Ok (Normal id total position len))
      → b ≡ packet_of mid id (fifth_of total position) (take len (drop 5 b))
  pub lowest : (mid : ℕ) (b : List ℕ) (k : ℕ) → Allowed mid → u.read mid b ≡ no k → Lowest mid b k
  pub refused : (mid : ℕ) (b : List ℕ) (k : ℕ) → Allowed mid → Lowest mid b k → u.read mid b ≡ no k

-- what a reply is heard as: exactly the eight bytes of a reply from this MID with a last ID that a sign may have; 35 otherwise
pub record Hears {R : Type 0} (u : Calls R) : Type 0 where
  pub heard : (mid last : ℕ) (busy sink : Bool) → Allowed mid → is_last last ≡ true → u.hear mid (reply_of mid last busy sink) ≡ status_told (status last busy sink)
  pub unheard : (mid : ℕ) (b : List ℕ) → Allowed mid → Bytes b
      → ((last : ℕ) (busy sink : Bool) → is_last last ≡ true → b ≡ reply_of mid last busy sink → ⊥)
      → u.hear mid b ≡ no 35

-- a writer refuses by the first of these rows and leaves the buffer, or writes these bytes at its front and leaves the rest
pub record Lays (rows : List Row) (bytes out : List ℕ) (w : Wrote) : Type 0 where
  pub told : w.told ≡ written_of (first_of rows) bytes
  pub buffer : w.buffer ≡ buffer_of (first_of rows) bytes out

pub record Writes {R : Type 0} (u : Calls R) : Type 0 where
  pub queries : (mid : ℕ) (out : List ℕ) → Lays (mid_row mid ∷ short_by (query_of mid) out ∷ []) (query_of mid) out (u.query mid out)
  pub resets : (mid : ℕ) (out : List ℕ) → Lays (mid_row mid ∷ short_by (reset_of mid) out ∷ []) (reset_of mid) out (u.reset mid out)
  pub writes : (mid id : ℕ) (body : List ℕ) (position : ℕ) (out : List ℕ)
      → Lays (mid_row mid ∷ packet_rows mid id body position out) (packet_at mid id body position) out (u.write mid id body position out)
  pub transmits : (mid id : ℕ) (body out : List ℕ) → Lays (mid_row mid ∷ transmission_rows mid id body out) (transmission_of mid id body) out (u.transmit mid id body out)
  pub replies : (mid last : ℕ) (busy sink : Bool) (out : List ℕ)
      → Lays (mid_row mid ∷ reply_rows mid last busy sink out) (reply_of mid last busy sink) out (u.answer mid last busy sink out)

-- a packet of a body that is written into a buffer with room for it
pub record ReadsBack {R : Type 0} (u : Calls R) (mid id : ℕ) (body : List ℕ) (position : ℕ) (out : List ℕ) (n : ℕ) : Type 0 where
  pub count : (u.write mid id body position out).told ≡ yes (n ∷ [])
  pub fields : u.read mid (take n (u.write mid id body position out).buffer) ≡ read_told (Ok (Normal id (total_of body) position (length (part_of body position))))
  pub carried : take (length (part_of body position)) (drop 5 (u.write mid id body position out).buffer) ≡ part_of body position
  pub behind : drop n (u.write mid id body position out).buffer ≡ drop n out

-- a reply that is written into a buffer with room for it; to no sign is it a packet
pub record HearsBack {R : Type 0} (u : Calls R) (mid last : ℕ) (busy sink : Bool) (out : List ℕ) : Type 0 where
  pub count : (u.answer mid last busy sink out).told ≡ yes (8 ∷ [])
  pub told : u.hear mid (take 8 (u.answer mid last busy sink out).buffer) ≡ status_told (status last busy sink)
  pub behind : drop 8 (u.answer mid last busy sink out).buffer ≡ drop 8 out
  pub apart : (m : ℕ) → (u.read m (take 8 (u.answer mid last busy sink out).buffer)).number ≡ 0 → ⊥

-- both ends together: what was written reads back, and equal fields are equal bytes
pub record WireHolds {R : Type 0} (u : Calls R) : Type 0 where
  pub reads : Reads u
  pub hears : Hears u
  pub writes : Writes u
  pub back : (mid id : ℕ) (body : List ℕ) (position : ℕ) (out : List ℕ) → Allowed mid → id ≤ 0x3F → 1 ≤ length body → length body ≤ 84 → position < total_of body
      → length (packet_at mid id body position) ≤ length out
      → ReadsBack u mid id body position out (length (packet_at mid id body position))
  pub same : (mid : ℕ) (b b' : List ℕ) (id total position len : ℕ) → Bytes b → Bytes b' → u.read mid b ≡ read_told (Ok (Normal id total position len))
      → u.read mid b' ≡ read_told (Ok (Normal id total position len))
      → take len (drop 5 b) ≡ take len (drop 5 b')
      → b ≡ b'
  pub heard : (mid last : ℕ) (busy sink : Bool) (out : List ℕ) → Allowed mid → is_last last ≡ true → 8 ≤ length out → HearsBack u mid last busy sink out
  pub same_heard : (mid : ℕ) (b b' : List ℕ) (last : ℕ) (busy sink : Bool) → Bytes b → Bytes b' → u.hear mid b ≡ status_told (status last busy sink)
      → u.hear mid b' ≡ status_told (status last busy sink)
      → b ≡ b'
