-- Ours keeps the promise of the wire.
use Prim.Native.Nat.{ℕ, ◌≤◌, ◌<◌}
use mathlib.Core.Bool.{Bool, true, false}
use mathlib.Core.List.{List, [], ◌∷◌}
use mathlib.Core.Path.{◌≡◌, refl, sym, ap, subst, ◌∙◌}
use native.Mathlib.Omega.{arith}
use lib.Dec.{eqb}
use lib.ListN.{length, get_or, take, drop, length-drop}
use lib.Seq.{drop-append-le, take-append-le}
use Rattle.basis.specs.Bytes.{Bytes, laid}
use Rattle.basis.specs.Choice.{when, ◌and◌}
use Rattle.basis.specs.Rows.{Row, first_of}
use Rattle.basis.specs.Told.{no}
use Rattle.basis.proofs.Laid.{take_laid, drop_laid}
use Rattle.basis.proofs.Tests.{tests}
use Rattle.std.specs.Prelude.{Result, Err, Ok}
use Rattle.refusal.specs.Refusal.{refusal_of}
use Rattle.reader.specs.Read.{Lowest}
use Rattle.refusal.specs.declared.Refusal.{Refusal}
use Rattle.refusal.specs.declared.Refusal.TheVariants.{NoReply}
use Rattle.packet.specs.Mid.{Allowed, mid_row}
use Rattle.packet.specs.Wire.{fifth_of, query_of, reset_of, total_of, part_of, packet_at, transmission_of, reply_of}
use Rattle.packet.specs.Write.{short_by, packet_rows, transmission_rows, buffer_of, written_of}
use Rattle.packet.proofs.Parts.{part_length}
use Rattle.packet.proofs.Stands.{at_length, part_stands}
use Rattle.reader.specs.Read.{read_of, told_of as read_told}
use Rattle.reader.specs.declared.read.Packet.{Packet}
use Rattle.reader.proofs.ReadBack.{query_reads, reset_reads, body_reads, normal_reads}
use Rattle.reader.proofs.Unique.{normal_only, same_fields, query_only, reset_only}
use Rattle.reader.proofs.Refusals.{refused_lowest, lowest_refused, no_packet}
use Rattle.reply.specs.Reply.{is_last, is_reply, heard_from, heard_of, reply_rows, told_of as status_told, status}
use Rattle.reply.specs.declared.Status.{Status}
use Rattle.reply.proofs.Replies.{reply_reads, reply_only, same_reply, heard_past}
use Rattle.promises.specs.Unit.{left_by, ours}
use Rattle.promises.specs.Wire.{ReadsBack, HearsBack, Lays, Reads, Hears, Writes, WireHolds}
use Rattle.promises.proofs.Yes.{read_no_lem, unheard_35}
use Rattle.promises.proofs.Tellings.{query_told, reset_told, normal_told, refused_told, heard_told}

module _ (mid id : ℕ) (body : List ℕ) (position : ℕ) (out : List ℕ) (allowed : Allowed mid) (normal : id ≤ 0x3F) (some : 1 ≤ length body) (most : length body ≤ 84)
    (below : position < total_of body)
    (room : length (packet_at mid id body position) ≤ length out) where
  -- nothing refuses the packet
  none : first_of (mid_row mid ∷ packet_rows mid id body position out) ≡ 0
  none =
      let full : length body ≡ 0 → ⊥ = omega arith in
      let enough = room in
      search (tests, allowed, full, enough)

  pub ours_back : ReadsBack ours mid id body position out (length (packet_at mid id body position))
  unfolding laid
  ours_back =
      let p = packet_at mid id body position in
      let n = length p in
      let size = at_length mid id body position in
      let behind = drop n out in
      let part = part_of body position in
      let long : 5 ≤ n = omega arith in
      let fits : length part ≤ length (drop 5 p) = omega (arith, part_length body position, length-drop 5 p) in
      let laying : (ours.write mid id body position out).buffer ≡ laid p out = ap (λ (k : ℕ). buffer_of k p out) none in
      record {
        count = ap (λ (k : ℕ). written_of k p) none;
        fields =
            ap (λ (x : List ℕ). read_told (read_of mid (take n x))) laying
            ∙ ap (λ (x : List ℕ). read_told (read_of mid x)) (take_laid p out)
            ∙ ap read_told (body_reads mid id body position allowed normal some most below);
        carried =
            ap (λ (x : List ℕ). take (length part) (drop 5 x)) laying
            ∙ ap (take (length part)) (drop-append-le 5 p behind long)
            ∙ take-append-le (length part) (drop 5 p) behind fits
            ∙ part_stands mid id (fifth_of (total_of body) position) part;
        behind = ap (drop n) laying ∙ drop_laid p out;
      }

module _ (mid last : ℕ) (busy sink : Bool) (out : List ℕ) (allowed : Allowed mid) (known : is_last last ≡ true) (room : 8 ≤ length out) where
  -- nothing refuses the reply
  free : first_of (mid_row mid ∷ reply_rows mid last busy sink out) ≡ 0
  unfolding reply_of
  free =
      let enough : length (reply_of mid last busy sink) ≤ length out = omega arith in
      search (tests, allowed, enough, known)

  pub ours_hears_back : HearsBack ours mid last busy sink out
  unfolding reply_of
  ours_hears_back =
      let p = reply_of mid last busy sink in
      let laying : (ours.answer mid last busy sink out).buffer ≡ laid p out = ap (λ (k : ℕ). buffer_of k p out) free in
      let front : take 8 (ours.answer mid last busy sink out).buffer ≡ p = ap (take 8) laying ∙ take_laid p out in
      record {
        count = ap (λ (k : ℕ). written_of k p) free;
        told = ap (λ (x : List ℕ). status_told (heard_of mid x)) front ∙ ap status_told (reply_reads mid last busy sink allowed known);
        behind = ap (drop 8) laying ∙ drop_laid p out;
        apart = λ m z.
            let e = (no_packet m mid last busy sink).0 in
            let n = sym (ap (λ (x : List ℕ). (read_told (read_of m x)).number) front ∙ ap (λ (x : Result Packet Refusal). (read_told x).number) e) ∙ z in
            omega (arith, read_no_lem m (reply_of mid last busy sink) _ e);
      }

pub ours_reads : Reads ours
ours_reads =
    record {
      queried = λ mid allowed. ap read_told (query_reads mid allowed);
      query_only = λ mid b bytes e. query_only mid b bytes (query_told (read_of mid b) e);
      cleared = λ mid allowed. ap read_told (reset_reads mid allowed);
      reset_only = λ mid b bytes e. reset_only mid b bytes (reset_told (read_of mid b) e);
      normal = λ mid id total position part allowed e. ap read_told (normal_reads mid id total position part allowed e);
      normal_only = λ mid b id total position len bytes e. normal_only mid b id total position len bytes (normal_told (read_of mid b) id total position len e);
      lowest = λ mid b k allowed e.
          let t = refused_told (read_of mid b) k e in
          subst (Lowest mid b) t.1 (refused_lowest mid b (refusal_of k) allowed t.0);
      refused = λ mid b k allowed l.
          let x = lowest_refused mid b k allowed l in
          ap read_told x.0 ∙ ap no x.1;
    }

-- what was heard has a last ID that a sign may have
told_last : (t v w : Bool) (l last : ℕ) (b c busy sink : Bool) → is_last l ≡ v
    → when t (when (v and w) (status l b c) (Err NoReply)) (Err NoReply) ≡ status last busy sink
    → is_last last ≡ true
told_last true true true l last b c busy sink h e =
    let same : ◌≡◌ {A = Status} (record { last = l; busy = b; sink = c }) (record { last = last; busy = busy; sink = sink }) = cc in
    ap is_last (sym (ap (λ (s : Status). s.last) same)) ∙ h
told_last true true false l last b c busy sink h e = let z : ◌≡◌ {A = ℕ} 0 1 = cc in absurd (omega arith)
told_last true false w l last b c busy sink h e = let z : ◌≡◌ {A = ℕ} 0 1 = cc in absurd (omega arith)
told_last false v w l last b c busy sink h e = let z : ◌≡◌ {A = ℕ} 0 1 = cc in absurd (omega arith)

pub heard_last : (mid : ℕ) (b : List ℕ) (last : ℕ) (busy sink : Bool) → heard_of mid b ≡ status last busy sink → is_last last ≡ true
unfolding heard_from
heard_last mid b last busy sink e =
    told_last (is_reply mid b) (is_last (get_or b 3 0)) _ (get_or b 3 0) last (eqb (get_or b 4 0) 0x42) (eqb (get_or b 5 0) 0x53) busy sink refl
    (heard_past mid b last busy sink e).1

pub ours_hears : Hears ours
ours_hears =
    record {
      heard = λ mid last busy sink allowed known. ap status_told (reply_reads mid last busy sink allowed known);
      unheard = λ mid b allowed bytes none. go mid b allowed bytes none (heard_of mid b) refl;
    }
  where
    go : (mid : ℕ) (b : List ℕ) → Allowed mid → Bytes b → ((last : ℕ) (busy sink : Bool) → is_last last ≡ true → b ≡ reply_of mid last busy sink → ⊥) → (x : Result Status Refusal)
        → heard_of mid b ≡ x
        → status_told (heard_of mid b) ≡ no 35
    go mid b allowed bytes none (Ok s) e =
        absurd (none s.last s.busy s.sink (heard_last mid b s.last s.busy s.sink e) (reply_only mid b s.last s.busy s.sink bytes e))
    go mid b allowed bytes none (Err x) e = ap status_told e ∙ ap no (sym (unheard_35 mid b x allowed e))

-- a writer of ours, by its rows
pub lays : (rows : List Row) (bytes out : List ℕ) → Lays rows bytes out (left_by rows bytes out)
lays rows bytes out = record { told = refl; buffer = refl }

pub ours_writes : Writes ours
ours_writes =
    record {
      queries = λ mid out. lays (mid_row mid ∷ short_by (query_of mid) out ∷ []) (query_of mid) out;
      resets = λ mid out. lays (mid_row mid ∷ short_by (reset_of mid) out ∷ []) (reset_of mid) out;
      writes = λ mid id body position out. lays (mid_row mid ∷ packet_rows mid id body position out) (packet_at mid id body position) out;
      transmits = λ mid id body out. lays (mid_row mid ∷ transmission_rows mid id body out) (transmission_of mid id body) out;
      replies = λ mid last busy sink out. lays (mid_row mid ∷ reply_rows mid last busy sink out) (reply_of mid last busy sink) out;
    }

pub ours_holds : WireHolds ours
ours_holds =
    record {
      reads = ours_reads;
      hears = ours_hears;
      writes = ours_writes;
      back = ours_back;
      same = λ mid b b' id total position len bytes bytes' e e' f.
          same_fields mid b b' id total position len bytes bytes' (normal_told (read_of mid b) id total position len e)
          (normal_told (read_of mid b') id total position len e')
          f;
      heard = ours_hears_back;
      same_heard = λ mid b b' last busy sink bytes bytes' e e'.
          same_reply mid b b' last busy sink bytes bytes' (heard_told (heard_of mid b) last busy sink e) (heard_told (heard_of mid b') last busy sink e');
    }
