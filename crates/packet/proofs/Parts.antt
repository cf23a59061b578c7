-- Lengths: of a packet, of the part of a body that it carries, and of the first packets of a body back to back.
use Rattle.std.proofs.Common.{◌≡◌, ℕ, zero, suc, ◌+◌, ◌-◌, ◌*◌, ◌≤◌, min, List, [], ◌∷◌, length, take, drop, sym, ap, ◌∙◌, arith, length-append, length-drop, length-take, take_all}
use mathlib.Core.Logic.{dite}
use native.Mathlib.Decide.{dec_le}
use Rattle.packet.specs.Wire.{check_of, front_of, packet_of, total_of, part_of, packet_at, packets_of, transmission_of}

-- five bytes in front, two behind
pub packet_length : (mid id fifth : ℕ) (part : List ℕ) → length (packet_of mid id fifth part) ≡ length part + 7
unfolding packet_of
packet_length mid id fifth part =
    let front = front_of mid id fifth part in
    omega (arith, length-append front (0 ∷ check_of front ∷ []))

pub part_length : (body : List ℕ) (position : ℕ) → length (part_of body position) ≡ min 14 (length body - 14 * position)
unfolding part_of
part_length body position = simp (length-take, length-drop)

-- the part that a writer cuts off: 14 bytes, or what is left
pub part_cut : (body : List ℕ) (position len : ℕ) → len ≡ min (length body - 14 * position) 14
    → take (14 * position + len - 14 * position) (drop (14 * position) body) ≡ part_of body position
unfolding part_of
part_cut body position len cut =
    let rest = drop (14 * position) body in
    let whole : length rest ≡ length body - 14 * position = length-drop (14 * position) body in
    let size = 14 * position + len - 14 * position in
    dite (dec_le 14 (length rest))
    (λ full. let e : size ≡ 14 = omega arith in ap (λ (n : ℕ). take n rest) e)
    (λ last.
    let short : length rest ≤ size = omega arith in
    let less : length rest ≤ 14 = omega arith in
    take_all size rest short ∙ sym (take_all 14 rest less))

-- the first n packets carry the first 14 n bytes, as far as there are any
pub packets_length : (mid id : ℕ) (body : List ℕ) (n : ℕ) → length (packets_of mid id body n) ≡ 7 * n + min (14 * n) (length body)
unfolding packets_of
packets_length mid id body zero = omega arith
packets_length mid id body (suc n) =
    omega (
      arith,
      length-append (packets_of mid id body n) (packet_at mid id body n),
      packets_length mid id body n,
      packet_length mid id (16 * total_of body + n) (part_of body n),
      part_length body n,
    )

-- 7 N and the body
pub transmission_length : (mid id : ℕ) (body : List ℕ) → length (transmission_of mid id body) ≡ 7 * total_of body + length body
transmission_length mid id body = omega (arith, packets_length mid id body (total_of body))
