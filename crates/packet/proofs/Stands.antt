-- What stands where: packet p of a transmission at byte 21 p, its data at its bytes 5 on, what was written at the buffer's front.
use Rattle.std.proofs.Common.{◌≡◌, ℕ, zero, suc, ◌+◌, ◌-◌, ◌*◌, ◌<◌, ◌≤◌, min, List, [], ◌∷◌, ◌++◌, length, get_or, take, drop, sym, ap, ◌∙◌, arith, length-drop, drop_at, Ok}
use mathlib.Core.Logic.{dite}
use native.Mathlib.Decide.{dec_lt}
use lib.Seq.{drop-append-le, take-append-le, take-length}
use Rattle.basis.specs.Rows.{Row, first_of}
use Rattle.basis.proofs.Laid.{take_laid, drop_laid}
use Rattle.packet.specs.Wire.{check_of, front_of, total_of, part_of, packet_of, packet_at, packets_of, transmission_of}
use Rattle.packet.specs.Write.{Writes, answer_of, buffer_of}
use Rattle.packet.proofs.Parts.{packet_length, part_length, packets_length}

-- the length of one packet of a body
pub at_length : (mid id : ℕ) (body : List ℕ) (p : ℕ) → length (packet_at mid id body p) ≡ min 14 (length body - 14 * p) + 7
at_length mid id body p = omega (arith, packet_length mid id (16 * total_of body + p) (part_of body p), part_length body p)

-- among the first n packets too
stands_among : (mid id : ℕ) (body : List ℕ) (n p : ℕ) → p < n → 14 * p ≤ length body
    → take (length (packet_at mid id body p)) (drop (21 * p) (packets_of mid id body n)) ≡ packet_at mid id body p
unfolding packets_of
stands_among mid id body zero p below within = absurd (omega arith)
stands_among mid id body (suc n) p below within =
    dite (dec_lt p n) (λ earlier. before earlier (stands_among mid id body n p earlier within)) (λ other. last (omega arith))
  where
    q : List ℕ
    q = packet_at mid id body p

    front : List ℕ
    front = packets_of mid id body n

    before : p < n → take (length q) (drop (21 * p) front) ≡ q → take (length q) (drop (21 * p) (front ++ packet_at mid id body n)) ≡ q
    before earlier e =
        let lf = packets_length mid id body n in
        let lq = at_length mid id body p in
        let past : 21 * p ≤ length front = omega arith in
        let room : length q ≤ length (drop (21 * p) front) = omega (arith, length-drop (21 * p) front) in
        ap (take (length q)) (drop-append-le (21 * p) front (packet_at mid id body n) past)
        ∙ take-append-le (length q) (drop (21 * p) front) (packet_at mid id body n) room
        ∙ e

    last : n ≡ p → take (length q) (drop (21 * p) (front ++ packet_at mid id body n)) ≡ q
    last e =
        let lf : length front ≡ 21 * p = omega (arith, packets_length mid id body n) in
        ap (take (length q)) (drop_at front (packet_at mid id body n) (21 * p) lf)
        ∙ ap (λ (k : ℕ). take (length q) (packet_at mid id body k)) e
        ∙ take-length q

pub packet_stands : (mid id : ℕ) (body : List ℕ) (p : ℕ) → p < total_of body
    → take (length (packet_at mid id body p)) (drop (21 * p) (transmission_of mid id body)) ≡ packet_at mid id body p
packet_stands mid id body p below = stands_among mid id body (total_of body) p below (omega arith)

-- the third byte of a packet is its length
pub count_stands : (mid id fifth : ℕ) (part : List ℕ) → get_or (packet_of mid id fifth part) 2 0 ≡ length (packet_of mid id fifth part)
unfolding packet_of
count_stands mid id fifth part = sym (packet_length mid id fifth part)

-- the data stand at bytes 5 on
pub part_stands : (mid id fifth : ℕ) (part : List ℕ) → take (length part) (drop 5 (packet_of mid id fifth part)) ≡ part
unfolding packet_of
part_stands mid id fifth part =
    take-append-le (length part) part (0 ∷ check_of (front_of mid id fifth part) ∷ []) (omega arith) ∙ take-length part

-- what a writer wrote stands at the front of the buffer, and what stood behind stands there still
pub written_stands : (rows : List Row) (bytes out after : List ℕ) (n : ℕ) → Writes rows bytes out (Ok n) after
    → (take n after ≡ bytes) × (drop n after ≡ drop n out)
written_stands rows bytes out after n w = go (first_of rows) w.answered w.left
  where
    go : (k : ℕ) → Ok n ≡ answer_of k bytes → after ≡ buffer_of k bytes out → (take n after ≡ bytes) × (drop n after ≡ drop n out)
    go zero a l =
        let e : n ≡ length bytes = cc in (
          ap (λ (m : ℕ). take m after) e ∙ ap (take (length bytes)) l ∙ take_laid bytes out,
          ap (λ (m : ℕ). drop m after) e ∙ ap (drop (length bytes)) l ∙ drop_laid bytes out ∙ ap (λ (m : ℕ). drop m out) (sym e),
        )
    go (suc k) a l = let z : ◌≡◌ {A = ℕ} 0 1 = cc in (absurd (omega arith), absurd (omega arith))
