-- What was written reads back as its fields, for every MID that is not forbidden, whatever the buffer held before.
use Prim.Native.Nat.{ℕ, ◌+◌, ◌-◌, ◌/◌, ◌%◌, ◌≤◌, ◌<◌}
use mathlib.Core.Path.{◌≡◌, refl, sym, ap, ◌∙◌}
use mathlib.Core.List.{List, [], ◌∷◌}
use mathlib.Core.Bool.{true}
use mathlib.Core.Logic.{dite}
use native.Mathlib.Decide.{dec_lt}
use native.Mathlib.Omega.{arith}
use lib.ListN.{length, get_or}
use lib.Seq.{get_or_at}
use Rattle.basis.proofs.Tests.{tests}
use Rattle.std.specs.Prelude.{Ok}
use Rattle.packet.specs.Mid.{Allowed}
use Rattle.packet.specs.Wire.{check_of, fifth_of, front_of, packet_of, query_of, reset_of, total_of, part_of, packet_at}
use Rattle.packet.specs.Write.{right_fields}
use Rattle.packet.proofs.Fields.{right_parts}
use Rattle.reader.specs.Read.{lowest_of, read_of, fields_of}
use Rattle.reader.specs.declared.read.Packet.TheVariants.{Query, Reset, Normal}
use Rattle.reader.proofs.Frame.{frame_right}
use Rattle.reader.proofs.Guard.{read_passes}
use Rattle.packet.proofs.Parts.{packet_length, part_length}
use Rattle.packet.proofs.Seals.{balanced}

-- a packet's frame is always right
packet_framed : (mid id fifth : ℕ) (part : List ℕ) → length part ≤ 14 → id ≤ 0x41
    → lowest_of mid (packet_of mid id fifth part) ≡ fields_of id fifth (length part + 7)
unfolding packet_of
packet_framed mid id fifth part most known =
    let b = packet_of mid id fifth part in
    let size : length b ≡ length part + 7 = packet_length mid id fifth part in
    let front = front_of mid id fifth part in
    let ended : get_or b (length b - 2) 0 ≡ 0 =
    get_or_at front 0 (check_of front ∷ []) 0 (length b - 2) (omega arith) in
    frame_right mid b (omega arith) (omega arith) (sym size) (balanced front) refl refl ended known
    ∙ ap (fields_of id fifth) size

pub query_reads : (mid : ℕ) → Allowed mid → read_of mid (query_of mid) ≡ Ok Query
query_reads mid allowed = read_passes mid (query_of mid) allowed ∙ packet_framed mid 0x40 0x10 [] (omega arith) (omega arith)

pub reset_reads : (mid : ℕ) → Allowed mid → read_of mid (reset_of mid) ≡ Ok Reset
reset_reads mid allowed = read_passes mid (reset_of mid) allowed ∙ packet_framed mid 0x41 0x10 [] (omega arith) (omega arith)

-- fields that obey the packet rules are read as they are
pub fields_read : (id fifth len total position : ℕ) → fifth / 16 ≡ total → fifth % 16 ≡ position → id ≤ 0x3F → 1 ≤ total → total ≤ 6
    → position < total → 7 < len → (position + 1 < total → 21 ≤ len) → fields_of id fifth len ≡ Ok (Normal id total position (len - 7))
fields_read id fifth len total position e1 e2 normal least most below some full =
    let other : len ≡ 7 → ⊥ = omega arith in
    dite (dec_lt (position + 1) total) (λ more. go_on other (omega arith) more (omega (arith, full more)))
    (λ last. at_end other (omega arith) (omega arith))
  where
    go_on : (len ≡ 7 → ⊥) → total < 7 → position + 1 < total → 14 ≤ len - 7 → fields_of id fifth len ≡ Ok (Normal id total position (len - 7))
    go_on other seven more whole = search (tests, e1, e2)

    at_end : (len ≡ 7 → ⊥) → total < 7 → total ≤ position + 1 → fields_of id fifth len ≡ Ok (Normal id total position (len - 7))
    at_end other seven end = search (tests, e1, e2)

module _ (mid id total position : ℕ) (part : List ℕ) (allowed : Allowed mid) (normal : id ≤ 0x3F) (least : 1 ≤ total) (most : total ≤ 6)
    (below : position < total)
    (some : 1 ≤ length part)
    (few : length part ≤ 14)
    (full : position + 1 < total → length part ≡ 14) where
  pub packet_reads : read_of mid (packet_of mid id (fifth_of total position) part) ≡ Ok (Normal id total position (length part))
  packet_reads =
      let known : id ≤ 0x41 = omega arith in
      read_passes mid (packet_of mid id (fifth_of total position) part) allowed
      ∙ packet_framed mid id (fifth_of total position) part few known
      ∙ fields_read id (fifth_of total position) (length part + 7) total position (omega arith) (omega arith) normal least most below
      (omega arith)
      (λ more. omega (arith, full more))
      ∙ ap (λ (n : ℕ). Ok (Normal id total position n)) (omega arith)

-- each packet of a body of 1 to 84 bytes
pub body_reads : (mid id : ℕ) (body : List ℕ) (position : ℕ) → Allowed mid → id ≤ 0x3F → 1 ≤ length body → length body ≤ 84 → position < total_of body
    → read_of mid (packet_at mid id body position) ≡ Ok (Normal id (total_of body) position (length (part_of body position)))
body_reads mid id body position allowed normal some most below =
    let size = part_length body position in
    packet_reads mid id (total_of body) position (part_of body position) allowed normal (omega arith) (omega arith) below (omega arith)
    (omega arith)
    (λ more. omega arith)

-- and whatever has the fields of a normal packet
pub normal_reads : (mid id total position : ℕ) (part : List ℕ) → Allowed mid → right_fields id total position (length part) ≡ true
    → read_of mid (packet_of mid id (fifth_of total position) part) ≡ Ok (Normal id total position (length part))
normal_reads mid id total position part allowed e =
    let r = right_parts id total position (length part) e in
    packet_reads mid id total position part allowed r.normal r.least r.most r.below r.some r.few r.full
