-- From the tests of a writer to its outcome: a refusal leaves the buffer, a yes lays the bytes.
use Rattle.std.proofs.Common.{◌≡◌, ℕ, suc, ◌+◌, ◌-◌, ◌*◌, ◌<◌, ◌≤◌, min, Bool, ltb, List, [], ◌∷◌, length, take, drop, sym, ap, ◌∙◌, add-one, arith, length-drop, length-take, le-ltb, lt-ltb, Result, Ok, Err}
use borrow.Rule.Slice.PartMut.{put_mid}
use Rattle.basis.specs.Bytes.{laid}
use Rattle.basis.specs.Choice.{when}
use Rattle.basis.specs.Rows.{Row, first_of}
use Rattle.basis.proofs.Laid.{laid_lent, length_laid}
use Rattle.basis.proofs.Tests.{tests}
use Rattle.packet.specs.Mid.{Allowed, mid_row}
use Rattle.packet.specs.Wire.{fifth_of, total_of, part_of, packet_of, packet_at, packets_of, transmission_of}
use Rattle.packet.specs.Write.{Writes, answer_of, buffer_of, short_by, packet_rows, transmission_rows}
use Rattle.refusal.specs.Refusal.{refusal_of}
use Rattle.refusal.specs.declared.Refusal.{Refusal}
use Rattle.refusal.specs.declared.Refusal.TheVariants.{NoRoom}
use Rattle.packet.proofs.Parts.{packet_length, part_length, part_cut, packets_length, transmission_length}

module _ (rows : List Row) (bytes out : List ℕ) where
  pub refused : (n : ℕ) → first_of rows ≡ suc n → Writes rows bytes out (Err (refusal_of (suc n))) out
  refused n e = record { answered = ap (λ (k : ℕ). answer_of k bytes) (sym e); left = ap (λ (k : ℕ). buffer_of k bytes out) (sym e) }

  pub wrote : (len : ℕ) (after : List ℕ) → first_of rows ≡ 0 → len ≡ length bytes → after ≡ laid bytes out
      → Writes rows bytes out (Ok len) after
  wrote len after e el ea =
      record
      { answered = ap Ok el ∙ ap (λ (k : ℕ). answer_of k bytes) (sym e); left = ea ∙ ap (λ (k : ℕ). buffer_of k bytes out) (sym e) }

-- a packet without data has seven bytes
pub special_wrote : (mid id : ℕ) (out after : List ℕ) → 7 ≤ length out → after ≡ laid (packet_of mid id 0x10 []) out
    → Writes (short_by (packet_of mid id 0x10 []) out ∷ []) (packet_of mid id 0x10 []) out (Ok 7) after
special_wrote mid id out after room ea =
    let size : length (packet_of mid id 0x10 []) ≡ 7 = packet_length mid id 0x10 [] in
    wrote (short_by (packet_of mid id 0x10 []) out ∷ []) (packet_of mid id 0x10 []) out 7 after
    (ap (λ (n : ℕ). when (ltb (length out) n) 34 0) size ∙ ap (λ (b : Bool). when b 34 0) (le-ltb (length out) 7 room))
    (sym size)
    ea

module _ (mid id : ℕ) (body out : List ℕ) (some : length body ≡ 0 → ⊥) (most : length body ≤ 84) (normal : id ≤ 0x3F) where
  module _ (position len : ℕ) (below : position < total_of body) (cut : len ≡ min (length body - 14 * position) 14) where
    -- a packet that carries `len` bytes has seven more
    packet_size : length (packet_at mid id body position) ≡ len + 7
    packet_size =
        omega (arith, packet_length mid id (16 * total_of body + position) (part_of body position), part_length body position)

    -- all that is left to refuse a packet is the room
    packet_room : first_of (packet_rows mid id body position out) ≡ when (ltb (length out) (len + 7)) 34 0
    packet_room = search (tests, packet_size)

    pub packet_refused : length out < len + 7
        → Writes (packet_rows mid id body position out) (packet_at mid id body position) out (Err NoRoom) out
    packet_refused short =
        refused (packet_rows mid id body position out) (packet_at mid id body position) out 33
        (packet_room ∙ ap (λ (b : Bool). when b 34 0) (lt-ltb (length out) (len + 7) short))

    pub packet_wrote : (total : ℕ) (part after : List ℕ) → total ≡ total_of body → len + 7 ≤ length out
        → part ≡ take (14 * position + len - 14 * position) (drop (14 * position) body)
        → after ≡ laid (packet_of mid id (fifth_of total position) part) out
        → Writes (packet_rows mid id body position out) (packet_at mid id body position) out (Ok (len + 7)) after
    packet_wrote total part after et room ep ea =
        wrote (packet_rows mid id body position out) (packet_at mid id body position) out (len + 7) after
        (packet_room ∙ ap (λ (b : Bool). when b 34 0) (le-ltb (length out) (len + 7) room))
        (sym packet_size)
        (ea
        ∙ ap (λ (n : ℕ). laid (packet_of mid id (fifth_of n position) part) out) et
        ∙ ap (λ (p : List ℕ). laid (packet_of mid id (fifth_of (total_of body) position) p) out) (ep ∙ part_cut body position len cut))

  -- and the same of a transmission
  transmission_room : first_of (transmission_rows mid id body out)
      ≡ when (ltb (length out) (7 * total_of body + length body)) 34 0
  transmission_room = search (tests, transmission_length mid id body)

  pub transmission_refused : length out < 7 * total_of body + length body
      → Writes (transmission_rows mid id body out) (transmission_of mid id body) out (Err NoRoom) out
  transmission_refused short =
      refused (transmission_rows mid id body out) (transmission_of mid id body) out 33
      (transmission_room ∙ ap (λ (b : Bool). when b 34 0) (lt-ltb (length out) (7 * total_of body + length body) short))

  pub transmission_wrote : (total : ℕ) (after : List ℕ) → total ≡ total_of body → 7 * total + length body ≤ length out
      → after ≡ laid (transmission_of mid id body) out
      → Writes (transmission_rows mid id body out) (transmission_of mid id body) out (Ok (7 * total + length body)) after
  transmission_wrote total after et room ea =
      let fits : 7 * total_of body + length body ≤ length out = omega arith in
      wrote (transmission_rows mid id body out) (transmission_of mid id body) out (7 * total + length body) after
      (transmission_room ∙ ap (λ (b : Bool). when b 34 0) (le-ltb (length out) (7 * total_of body + length body) fits))
      (ap (λ (n : ℕ). 7 * n + length body) et ∙ sym (transmission_length mid id body))
      ea

  module _ (f y : List ℕ) (position : ℕ) (allowed : Allowed mid) (below : position < total_of body) (room : 7 * total_of body + length body ≤ length out)
      (ef : f ≡ laid (packets_of mid id body position) out) where
    -- what stands behind the first packets, which is lent on
    abbrev behind : List ℕ
    behind = take (length f - 21 * position) (drop (21 * position) f)

    -- the next packet is not refused there
    fits_there : first_of (mid_row mid ∷ packet_rows mid id body position behind) ≡ 0
    fits_there =
        let at = 21 * position in
        let p = packets_of mid id body position in
        let lp : at ≡ length p = omega (arith, packets_length mid id body position) in
        let fits : length p ≤ length out = omega arith in
        let lf : length f ≡ length out = ap length ef ∙ length_laid p out fits in
        let lq : length (packet_at mid id body position) ≡ min 14 (length body - 14 * position) + 7 =
        omega (arith, packet_length mid id (16 * total_of body + position) (part_of body position), part_length body position) in
        let lr : length behind ≡ length out - at = simp (length-take, length-drop) (omega arith) in
        let enough : length (packet_at mid id body position) ≤ length behind = omega arith in
        search (tests, allowed, enough)

    pub never_refused : (e : Refusal) → Writes (mid_row mid ∷ packet_rows mid id body position behind) (packet_at mid id body position) behind (Err e) y → ⊥
    never_refused e written =
        let wrote_it : ◌≡◌ {A = Result ℕ Refusal} (Err e) (Ok (length (packet_at mid id body position))) =
        written.answered ∙ ap (λ (k : ℕ). answer_of k (packet_at mid id body position)) fits_there in
        let z : ◌≡◌ {A = ℕ} 0 1 = cc in
        omega arith

    -- and handed back by the writer of one packet, it holds the next
    pub next_packet : (r : Result ℕ Refusal) → Writes (mid_row mid ∷ packet_rows mid id body position behind) (packet_at mid id body position) behind r y
        → (put_mid (21 * position) (length f - 21 * position) f y ≡ laid (packets_of mid id body (position + 1)) out)
        × (length (put_mid (21 * position) (length f - 21 * position) f y) ≡ length out)
    unfolding packets_of
    next_packet r written =
        let at = 21 * position in
        let p = packets_of mid id body position in
        let q = packet_at mid id body position in
        let lp : at ≡ length p = omega (arith, packets_length mid id body position) in
        let fits : length p ≤ length out = omega arith in
        let laying : y ≡ laid q behind = written.left ∙ ap (λ (k : ℕ). buffer_of k q behind) fits_there in
        let now : put_mid at (length f - at) f y ≡ laid (packets_of mid id body (position + 1)) out =
        rw add-one (laid_lent at p q out f y lp fits ef laying) in
        let most : length (packets_of mid id body (position + 1)) ≤ length out =
        omega (arith, packets_length mid id body (position + 1)) in
        (now, ap length now ∙ length_laid (packets_of mid id body (position + 1)) out most)
