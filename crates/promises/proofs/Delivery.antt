-- Ours delivers: the packets that walking finds in the buffer are the body's, and they are joined.
use Prim.Native.Nat.{ℕ, zero, suc, ◌+◌, ◌-◌, ◌*◌, ◌≤◌, ◌<◌}
use mathlib.Core.Bool.{Bool, true, false}
use mathlib.Core.List.{List, ◌∷◌, ◌++◌}
use mathlib.Core.Path.{◌≡◌, refl, sym, ap, ◌∙◌, subst}
use native.Mathlib.Omega.{arith}
use lib.Dec.{eqb, ltb}
use lib.ListN.{length, get_or, take, drop, length-drop}
use lib.Seq.{drop-drop, get_or-take, drop-append-le, take-append-le}
use borrow.Author.Tests.{eqb-false, ltb-false}
use Rattle.basis.specs.Bytes.{laid}
use Rattle.basis.specs.Choice.{when, ◌or◌}
use Rattle.basis.specs.Rows.{first_of}
use Rattle.std.specs.Prelude.{Ok}
use Rattle.packet.specs.Mid.{is_forbidden, Allowed, mid_row}
use Rattle.packet.specs.Wire.{fifth_of, total_of, part_of, packet_at, transmission_of}
use Rattle.packet.specs.Write.{transmission_rows, buffer_of, written_of}
use Rattle.packet.proofs.Parts.{transmission_length}
use Rattle.packet.proofs.Stands.{at_length, packet_stands, count_stands}
use Rattle.hear.specs.Hear.{told_of as outcome_told}
use Rattle.completed.specs.Completed.{has_of, added_of}
use Rattle.completed.specs.declared.Completed.{Completed}
use Rattle.completed.proofs.Laws.{has_added, sound_parts as completed_parts}
use Rattle.sign.proofs.Sounds.{sound_parts}
use Rattle.hear.specs.declared.Outcome.TheVariants.{Repeat}
use Rattle.sign.specs.Join.{stays_of}
use Rattle.sign.specs.Receive.{receive_of}
use Rattle.sign.specs.declared.Sign.{Sign}
use Rattle.sign.specs.declared.Received.{Received}
use Rattle.reader.proofs.ReadBack.{body_reads}
use Rattle.service.specs.Delivery.{Awaits, Delivered, after_packets, answer_to}
use Rattle.service.specs.Good.{Good}
use Rattle.service.proofs.Copies.{copy_repeats}
use Rattle.service.proofs.Deliveries.{delivers, packets_good}
use Rattle.promises.specs.Unit.{Heard, ours, heard_in}
use Rattle.promises.specs.Record.{stays}
use Rattle.promises.specs.Delivery.{packet_in, behind, answered, Gets, Delivers}

-- what a written transmission says of its MID, its body, its number and its buffer
pub record Written (mid id : ℕ) (body out : List ℕ) : Type 0 where
  pub none : first_of (mid_row mid ∷ transmission_rows mid id body out) ≡ 0
  pub allowed : Allowed mid
  pub some : 1 ≤ length body
  pub most : length body ≤ 84
  pub known : id ≤ 0x3F
  pub room : length (transmission_of mid id body) ≤ length out

pub written : (mid id : ℕ) (body out : List ℕ) → (ours.transmit mid id body out).told.number ≡ 0 → Written mid id body out
written mid id body out h =
    go (is_forbidden mid) (eqb (length body) 0) (ltb 84 (length body)) (ltb 0x3F id) (ltb (length out) (length (transmission_of mid id body))) refl refl refl refl refl h
  where
    rows : (m t u v w : Bool) → ℕ
    rows m t u v w = when m 19 (when (t or u) 31 (when v 32 (when w 34 0)))

    go : (m t u v w : Bool) → is_forbidden mid ≡ m → eqb (length body) 0 ≡ t → ltb 84 (length body) ≡ u → ltb 0x3F id ≡ v
        → ltb (length out) (length (transmission_of mid id body)) ≡ w
        → (written_of (rows m t u v w) (transmission_of mid id body)).number ≡ 0
        → Written mid id body out
    go true t u v w f a b c d e = absurd (omega arith)
    go false true u v w f a b c d e = absurd (omega arith)
    go false false true v w f a b c d e = absurd (omega arith)
    go false false false true w f a b c d e = absurd (omega arith)
    go false false false false true f a b c d e = absurd (omega arith)
    go false false false false false f a b c d e =
        record {
          none =
              ap (λ (t : Bool). rows t (eqb (length body) 0) (ltb 84 (length body)) (ltb 0x3F id) (ltb (length out) (length (transmission_of mid id body)))) f
              ∙ ap (λ (t : Bool). rows false t (ltb 84 (length body)) (ltb 0x3F id) (ltb (length out) (length (transmission_of mid id body)))) a
              ∙ ap (λ (t : Bool). rows false false t (ltb 0x3F id) (ltb (length out) (length (transmission_of mid id body)))) b
              ∙ ap (λ (t : Bool). rows false false false t (ltb (length out) (length (transmission_of mid id body)))) c
              ∙ ap (rows false false false false) d;
          allowed = f;
          some = let z = eqb-false (length body) 0 a in omega arith;
          most = let z = ltb-false 84 (length body) b in omega arith;
          known = let z = ltb-false 0x3F id c in omega arith;
          room = let z = ltb-false (length out) (length (transmission_of mid id body)) d in omega arith;
        }

-- the packets of a transmission in front of other bytes
module _ (mid id : ℕ) (body rest : List ℕ) where
  abbrev line : List ℕ
  line = transmission_of mid id body

  -- a packet stands at 21 times its position, and its third byte is its length
  stands : (p : ℕ) → p < total_of body → take (length (packet_at mid id body p)) (drop (21 * p) (line ++ rest)) ≡ packet_at mid id body p
  stands p below =
      let n = length (packet_at mid id body p) in
      let size = at_length mid id body p in
      let long = transmission_length mid id body in
      ap (take n) (drop-append-le (21 * p) line rest (omega arith))
      ∙ take-append-le n (drop (21 * p) line) rest (omega (arith, length-drop (21 * p) line))
      ∙ packet_stands mid id body p below

  counts : (p : ℕ) → p < total_of body → get_or (drop (21 * p) (line ++ rest)) 2 0 ≡ length (packet_at mid id body p)
  counts p below =
      let t = drop (21 * p) (line ++ rest) in
      let n = length (packet_at mid id body p) in
      sym (get_or-take n t 2 0 (omega (arith, at_length mid id body p)))
      ∙ ap (λ (s : List ℕ). get_or s 2 0) (stands p below)
      ∙ count_stands mid id (fifth_of (total_of body) p) (part_of body p)

  -- so walking from one finds those behind it
  walks : (p q : ℕ) → q + p < total_of body → packet_in (drop (21 * q) (line ++ rest)) p ≡ packet_at mid id body (q + p)
  walks zero q below =
      let t = drop (21 * q) (line ++ rest) in
      let e : q + 0 ≡ q = omega arith in
      ap (λ (k : ℕ). take k t) (counts q (omega arith)) ∙ stands q (omega arith) ∙ ap (packet_at mid id body) (sym e)
  walks (suc p) q below =
      let t = drop (21 * q) (line ++ rest) in
      let full : length (packet_at mid id body q) ≡ 21 = omega (arith, at_length mid id body q) in
      let e : suc q + p ≡ q + suc p = omega arith in
      let far : 21 * q + 21 ≡ 21 * suc q = omega arith in
      let next : drop (get_or t 2 0) t ≡ drop (21 * suc q) (line ++ rest) =
      ap (λ (k : ℕ). drop k t) (counts q (omega arith) ∙ full) ∙ drop-drop 21 (21 * q) (line ++ rest) ∙ ap (λ (k : ℕ). drop k (line ++ rest)) far in
      ap (λ (x : List ℕ). packet_in x p) next ∙ walks p (suc q) (omega arith) ∙ ap (packet_at mid id body) e

-- the packets in the buffer of a written transmission
module _ (mid id : ℕ) (body out : List ℕ) (w : Written mid id body out) where
  abbrev buffer : List ℕ
  buffer = (ours.transmit mid id body out).buffer

  pub packet_in_lem : (p : ℕ) → p < total_of body → packet_in buffer p ≡ packet_at mid id body p
  unfolding laid
  packet_in_lem p below =
      let t = transmission_of mid id body in
      let e : 0 + p ≡ p = omega arith in
      ap (λ (k : ℕ). packet_in (buffer_of k t out) p) w.none ∙ walks mid id body (drop (length t) out) p 0 (omega arith) ∙ ap (packet_at mid id body) e

  -- and the record after them
  pub behind_is : (s : Sign) (n : ℕ) → n ≤ total_of body → behind ours s mid buffer n ≡ after_packets s mid id body n
  behind_is s zero h = refl
  behind_is s (suc n) h =
      ap (λ (t : Sign). (receive_of t mid (packet_in buffer n)).sign) (behind_is s n (omega arith))
      ∙ ap (λ (b : List ℕ). (receive_of (after_packets s mid id body n) mid b).sign) (packet_in_lem n h)

  answered_is : (s : Sign) (p : ℕ) → p < total_of body → answered ours s mid buffer p ≡ heard_in (answer_to s mid id body p)
  answered_is s p below =
      ap (λ (t : Sign). heard_in (receive_of t mid (packet_in buffer p))) (behind_is s p (omega arith))
      ∙ ap (λ (b : List ℕ). heard_in (receive_of (after_packets s mid id body p) mid b)) (packet_in_lem p below)

  -- a copy of one of them, to a sign that has the number among its completed ones
  pub copy_is : (s : Sign) → Good s → has_of s.completed id ≡ true → (p : ℕ) → p < total_of body
      → ours.receive s mid (packet_in buffer p) ≡ stays s (outcome_told (Ok Repeat))
  unfolding stays_of
  copy_is s good has p below =
      ap (λ (b : List ℕ). heard_in (receive_of s mid b)) (packet_in_lem p below)
      ∙ ap heard_in
      (copy_repeats s good mid (packet_at mid id body p) id (total_of body) p (length (part_of body p))
      (body_reads mid id body p w.allowed w.known w.some w.most below)
      has)

module _ (s : Sign) (good : Good s) (mid id : ℕ) (body out : List ℕ) (w : Written mid id body out) (awaits : Awaits s id) where
  abbrev found : List ℕ
  found = (ours.transmit mid id body out).buffer

  d : Delivered s mid id body
  d = delivers s good mid id body w.allowed w.known w.some w.most awaits

  -- the position of the last packet
  abbrev final : ℕ
  final = total_of body - 1

  last_is : suc final ≡ total_of body
  last_is = let some = w.some in omega arith

  -- after all packets
  pub all_behind : behind ours s mid found (total_of body) ≡ (answer_to s mid id body final).sign
  all_behind = behind_is mid id body out w s (total_of body) (omega arith) ∙ ap (after_packets s mid id body) (sym last_is)

  pub behind_good : Good (behind ours s mid found (total_of body))
  behind_good = subst Good (sym (behind_is mid id body out w s (total_of body) (omega arith))) (packets_good s good mid id body (total_of body))

  pub behind_completed : (behind ours s mid found (total_of body)).completed ≡ added_of s.completed id
  behind_completed = ap (λ (t : Sign). t.completed) all_behind ∙ d.completed final last_is

  pub behind_has : has_of (behind ours s mid found (total_of body)).completed id ≡ true
  behind_has = ap (λ (d : Completed). has_of d id) behind_completed ∙ has_added s.completed id (completed_parts s.completed (sound_parts s good.sound).completed).most

  pub gets : Gets ours s mid id body found
  unfolding stays_of
  gets =
      let at = answered_is mid id body out w s in
      record {
        stored = λ p more. ap (λ (h : Heard Sign). h.told) (at p (omega arith)) ∙ ap (λ (r : Received). (heard_in r).told) (d.stored p more);
        nothing = λ p more. ap (λ (h : Heard Sign). h.body) (at p (omega arith)) ∙ ap (λ (r : Received). (heard_in r).body) (d.stored p more);
        released = λ p e. ap (λ (h : Heard Sign). h.told) (at p (omega arith)) ∙ ap outcome_told (d.released p e);
        same = λ p e. ap (λ (h : Heard Sign). h.body) (at p (omega arith)) ∙ d.same p e;
        completed = behind_completed;
        none = ap (λ (t : Sign). t.slots) all_behind ∙ d.none final last_is;
        holds = λ endless e. ap (λ (t : Sign). t.room) all_behind ∙ d.holds final last_is endless e;
        runs = λ endless e. ap (λ (t : Sign). t.run) all_behind ∙ d.runs final last_is endless e;
        empty = λ w e. ap (λ (t : Sign). t.room) all_behind ∙ d.empty final last_is w e;
        rests = λ w e. ap (λ (t : Sign). t.run) all_behind ∙ d.rests final last_is w e;
        repeats = λ p below. copy_is mid id body out w (behind ours s mid found (total_of body)) behind_good behind_has p below;
      }

pub ours_delivers : Delivers ours
ours_delivers s good mid id body out sent awaits = gets s good mid id body out (written mid id body out sent) awaits
