-- No wrong unit keeps the promises: one that keeps them can't be told from ours by any call.
use Prim.Native.Nat.{ℕ, zero, suc, ◌+◌}
use mathlib.Core.Bool.{Bool, true, false, not}
use mathlib.Core.List.{List, []}
use mathlib.Core.Path.{◌≡◌, refl, sym, ap, ◌∙◌}
use native.Mathlib.Omega.{arith}
use lib.Dec.{eqb, leb}
use lib.ListN.{length, get_or, take, drop, length-drop}
use lib.Seq.{length-take-le}
use borrow.Author.Tests.{eqb-true, eqb-false, leb-false, leb-true}
use Rattle.basis.specs.Bytes.{Bytes}
use Rattle.basis.specs.Choice.{◌and◌, within}
use Rattle.basis.specs.Rows.{Row}
use Rattle.basis.proofs.Choices.{and_parts, within_parts}
use Rattle.basis.specs.Told.{Told, no}
use Rattle.std.specs.Prelude.{Result, Ok, Err}
use Rattle.refusal.specs.Refusal.{number_of}
use Rattle.refusal.specs.declared.Refusal.{Refusal}
use Rattle.packet.specs.Mid.{is_forbidden, Allowed}
use Rattle.packet.specs.Write.{right_fields}
use Rattle.packet.proofs.Fields.{parts_right}
use Rattle.reader.specs.Read.{read_of, told_of as read_told}
use Rattle.reader.specs.declared.read.Packet.{Packet}
use Rattle.reader.specs.declared.read.Packet.TheVariants.{Query as QueryRead, Reset as ResetRead, Normal}
use Rattle.reader.proofs.Unique.{query_only, reset_only, normal_only}
use Rattle.reader.proofs.Refusals.{refused_lowest}
use Rattle.reply.specs.Reply.{heard_of, told_of as status_told, status}
use Rattle.reply.specs.declared.Status.{Status}
use Rattle.reply.proofs.Replies.{reply_reads, reply_only}
use Rattle.judge.specs.Verdict.{Verdict, judge_of, told_of as verdict_told}
use Rattle.judge.specs.declared.Ending.TheVariants.{Finite, Endless}
use Rattle.std.proofs.Common.{Ok, Err}
use Rattle.grammar.proofs.Grammars.{accepted_described}
use Rattle.refusal.specs.Refusal.{number_of}
use Rattle.grammar.proofs.Refusals.{refused_first}
use Rattle.perform.specs.Settings.{sound_of as settings_sound}
use Rattle.reckon.specs.Forecast.{settings_at, out_of_range}
use Rattle.reckon.proofs.Forecasts.{settings_sound_lem}
use Rattle.completed.specs.Completed.{has_of}
use Rattle.collect.specs.Slots.{same_of}
use Rattle.collect.proofs.Equal.{same_equal, equal_same}
use Rattle.hear.specs.Join.{begins_of, slot_of}
use Rattle.hear.proofs.Packets.{normal_read}
use Rattle.sign.specs.Sound.{sound_of, collected_of}
use Rattle.sign.specs.declared.Sign.{Sign}
use Rattle.sign.specs.declared.Received.{Received}
use Rattle.service.specs.Good.{Good, Roomy}
use Rattle.promises.specs.Unit.{Wrote, Heard, Calls, ours, left_by}
use Rattle.promises.specs.Wire.{Lays}
use Rattle.promises.specs.Record.{Heeds, Joins, stays}
use Rattle.promises.specs.Keeps.{Keeps, SameHeard, SameNext, Same}
use Rattle.promises.proofs.Wire.{heard_last}
use Rattle.promises.proofs.Yes.{unheard_35}
use Rattle.promises.proofs.Guard.{ours_guards}
use Rattle.promises.proofs.Safe.{ours_never_trips}
use Rattle.promises.proofs.Record.{ours_obeys}
use Rattle.promises.proofs.Line.{ours_runs}

-- two writers' outcomes by the same rows are one
one_wrote : (rows : List Row) (bytes out : List ℕ) (w : Wrote) → Lays rows bytes out w → w ≡ left_by rows bytes out
one_wrote rows bytes out w l =
    ap (λ (t : Told). record { told = t; buffer = w.buffer }) l.told
    ∙ ap (λ (b : List ℕ). record { told = (left_by rows bytes out).told; buffer = b }) l.buffer

-- an accepted normal packet has right fields, and so many data bytes
right_normal : (mid : ℕ) (b : List ℕ) (id total position len : ℕ) → read_of mid b ≡ Ok (Normal id total position len)
    → right_fields id total position len ≡ true
right_normal mid b id total position len e =
    let p = normal_read mid b id total position len e in
    parts_right id total position len
    (record {
      normal = p.known;
      some = p.right.some;
      few = p.right.few;
      least = p.right.least;
      most = p.right.most;
      below = p.right.below;
      full = p.right.full;
    })

data_size : (mid : ℕ) (b : List ℕ) (id total position len : ℕ) → read_of mid b ≡ Ok (Normal id total position len) → length (take len (drop 5 b)) ≡ len
data_size mid b id total position len e =
    length-take-le len (drop 5 b) (omega (arith, length-drop 5 b, (normal_read mid b id total position len e).size))

-- a pace and scans in range are sound settings
range_sound : (pace each : ℕ) → out_of_range pace each ≡ false → settings_sound (settings_at pace each) ≡ true
range_sound pace each e =
    let both = and_parts (within 1 pace 20) (within 1 each 6) (turned (within 1 pace 20 and within 1 each 6) e) in
    let p = within_parts 1 pace 20 both.0 in
    let q = within_parts 1 each 6 both.1 in
    settings_sound_lem pace each p.0 p.1 q.0 q.1
  where
    turned : (t : Bool) → not t ≡ false → t ≡ true
    turned true h = refl
    turned false h = sym h

-- records of one next, and of one answer
stays_same : {R : Type 0} (u : Calls R) (r : R) (t : Told) (h : Heard R) → h ≡ stays r t → (x : Heard Sign) → x ≡ stays (u.holds r) t → SameHeard u h x
stays_same {R} u r t h e x f =
    record {
      told = ap (λ (y : Heard R). y.told) e ∙ sym (ap (λ (y : Heard Sign). y.told) f);
      next = ap (λ (y : Heard R). u.holds y.next) e ∙ sym (ap (λ (y : Heard Sign). y.next) f);
      body = ap (λ (y : Heard R). y.body) e ∙ sym (ap (λ (y : Heard Sign). y.body) f);
    }

heeds_same : {R : Type 0} (u : Calls R) (h : Heard R) (x : Heard Sign) (y : Received) → Heeds u h y → Heeds ours x y → SameHeard u h x
heeds_same u h x y e f = record { told = e.told ∙ sym f.told; next = e.next ∙ sym f.next; body = e.body ∙ sym f.body }

module _ {R : Type 0} (u : Calls R) (k : Keeps u) where
  -- the readers
  pins_read : (mid : ℕ) (b : List ℕ) → Bytes b → u.read mid b ≡ ours.read mid b
  pins_read mid b bytes = guarded (is_forbidden mid) refl
    where
      go : Allowed mid → (x : Result Packet Refusal) → read_of mid b ≡ x → u.read mid b ≡ read_told (read_of mid b)
      go allowed (Ok QueryRead) e = ap (u.read mid) (query_only mid b bytes e) ∙ k.wire.reads.queried mid allowed ∙ ap read_told (sym e)
      go allowed (Ok ResetRead) e = ap (u.read mid) (reset_only mid b bytes e) ∙ k.wire.reads.cleared mid allowed ∙ ap read_told (sym e)
      go allowed (Ok (Normal id total position len)) e =
          let part = take len (drop 5 b) in
          let size : length part ≡ len = data_size mid b id total position len e in
          ap (u.read mid) (normal_only mid b id total position len bytes e)
          ∙ k.wire.reads.normal mid id total position part allowed (ap (right_fields id total position) size ∙ right_normal mid b id total position len e)
          ∙ ap (λ (n : ℕ). read_told (Ok (Normal id total position n))) size
          ∙ ap read_told (sym e)
      go allowed (Err x) e = k.wire.reads.refused mid b (number_of x) allowed (refused_lowest mid b x allowed e) ∙ ap read_told (sym e)

      guarded : (t : Bool) → is_forbidden mid ≡ t → u.read mid b ≡ read_told (read_of mid b)
      guarded true e = k.guards.read mid b e ∙ sym (ours_guards.read mid b e)
      guarded false e = go e (read_of mid b) refl

  pins_hear : (mid : ℕ) (b : List ℕ) → Bytes b → u.hear mid b ≡ ours.hear mid b
  pins_hear mid b bytes = guarded (is_forbidden mid) refl
    where
      go : Allowed mid → (x : Result Status Refusal) → heard_of mid b ≡ x → u.hear mid b ≡ status_told (heard_of mid b)
      go allowed (Ok s) e =
          ap (u.hear mid) (reply_only mid b s.last s.busy s.sink bytes e)
          ∙ k.wire.hears.heard mid s.last s.busy s.sink allowed (heard_last mid b s.last s.busy s.sink e)
          ∙ ap status_told (sym e)
      go allowed (Err x) e =
          k.wire.hears.unheard mid b allowed bytes
          (λ last busy sink known same.
          let h : Err x ≡ status last busy sink = sym e ∙ ap (heard_of mid) same ∙ reply_reads mid last busy sink allowed known in
          let z : ◌≡◌ {A = ℕ} 0 1 = cc in
          omega arith)
          ∙ ap no (unheard_35 mid b x allowed e)
          ∙ ap status_told (sym e)

      guarded : (t : Bool) → is_forbidden mid ≡ t → u.hear mid b ≡ status_told (heard_of mid b)
      guarded true e = k.guards.hear mid b e ∙ sym (ours_guards.hear mid b e)
      guarded false e = go e (heard_of mid b) refl

  -- a body
  pins_judge : (b : List ℕ) → u.judge b ≡ ours.judge b
  pins_judge b = go (judge_of b) refl
    where
      go : (v : Verdict) → judge_of b ≡ v → u.judge b ≡ verdict_told (judge_of b)
      go (Ok Finite) e = k.line.accepts b false (accepted_described b false e) ∙ ap verdict_told (sym e)
      go (Ok Endless) e = k.line.accepts b true (accepted_described b true e) ∙ ap verdict_told (sym e)
      go (Err w) e = k.line.refuses b (number_of w.refusal) w.place (refused_first b w e) ∙ ap verdict_told (sym e)

  pins_forecast : (b : List ℕ) (pace each : ℕ) → u.forecast b pace each ≡ ours.forecast b pace each
  pins_forecast b pace each = go (out_of_range pace each) refl
    where
      by : (v : Verdict) → judge_of b ≡ v → out_of_range pace each ≡ false → u.forecast b pace each ≡ ours.forecast b pace each
      by (Ok Finite) e f =
          let set = range_sound pace each f in
          k.line.foretold b (settings_at pace each) set e ∙ sym (ours_runs.foretold b (settings_at pace each) set e)
      by (Ok Endless) e f =
          let set = range_sound pace each f in
          k.line.never b (settings_at pace each) set e ∙ sym (ours_runs.never b (settings_at pace each) set e)
      by (Err w) e f =
          let r = refused_first b w e in
          let n = number_of w.refusal in
          k.line.no_program b pace each n w.place f r ∙ sym (ours_runs.no_program b pace each n w.place f r)

      go : (t : Bool) → out_of_range pace each ≡ t → u.forecast b pace each ≡ ours.forecast b pace each
      go true e = k.line.out_of_range_lem b pace each e ∙ sym (ours_runs.out_of_range_lem b pace each e)
      go false e = by (judge_of b) refl e

  -- a sound record
  module _ (r : R) (good : Good (u.holds r)) where
    abbrev s : Sign
    s = u.holds r

    joins_same : (mid : ℕ) (b : List ℕ) (id total position len : ℕ) → read_of mid b ≡ Ok (Normal id total position len)
        → SameHeard u (u.receive r mid b) (ours.receive s mid b)
    joins_same mid b id total position len e =
        go (has_of s.completed id) (eqb s.run.len 0) (begins_of (collected_of s) id) (eqb s.slots.total total) (eqb (get_or s.slots.lens position 0) 0)
        (same_of (slot_of (collected_of s) position) part)
        refl
        refl
        refl
        refl
        refl
        refl
      where
        part : List ℕ
        part = take len (drop 5 b)

        j : Joins u r mid b id total position part
        j = k.obeys.joins r good mid b id total position len e

        o : Joins ours s mid b id total position part
        o = ours_obeys.joins s good mid b id total position len e

        go : (t v w x y z : Bool) → has_of s.completed id ≡ t → eqb s.run.len 0 ≡ v → begins_of (collected_of s) id ≡ w → eqb s.slots.total total ≡ x
            → eqb (get_or s.slots.lens position 0) 0 ≡ y
            → same_of (slot_of (collected_of s) position) part ≡ z
            → SameHeard u (u.receive r mid b) (ours.receive s mid b)
        go true v w x y z a c d f g h =
            stays_same u r _ _ (j.repeats a) _ (o.repeats a)
        go false false w x y z a c d f g h =
            let busy = eqb-false s.run.len 0 c in
            stays_same u r _ _ (j.waits a busy) _ (o.waits a busy)
        go false true true x y z a c d f g h =
            let ready = eqb-true s.run.len 0 c in
            heeds_same u _ _ _ (j.begins a ready d) (o.begins a ready d)
        go false true false false y z a c d f g h =
            let ready = eqb-true s.run.len 0 c in
            let apart = eqb-false s.slots.total total f in
            stays_same u r _ _ (j.other_total a ready d apart) _ (o.other_total a ready d apart)
        go false true false true true z a c d f g h =
            let ready = eqb-true s.run.len 0 c in
            let one = eqb-true s.slots.total total f in
            let free = eqb-true (get_or s.slots.lens position 0) 0 g in
            heeds_same u _ _ _ (j.goes_in a ready d one free) (o.goes_in a ready d one free)
        go false true false true false true a c d f g h =
            let ready = eqb-true s.run.len 0 c in
            let one = eqb-true s.slots.total total f in
            let held = eqb-false (get_or s.slots.lens position 0) 0 g in
            let same = same_equal (slot_of (collected_of s) position) part h in
            stays_same u r _ _ (j.again a ready d one held same) _ (o.again a ready d one held same)
        go false true false true false false a c d f g h =
            let ready = eqb-true s.run.len 0 c in
            let one = eqb-true s.slots.total total f in
            let held = eqb-false (get_or s.slots.lens position 0) 0 g in
            let apart : slot_of (collected_of s) position ≡ part → ⊥ =
            λ q. let n : false ≡ true = sym h ∙ ap (λ (x : List ℕ). same_of x part) q ∙ equal_same part in let z0 : ◌≡◌ {A = ℕ} 0 1 = cc in omega arith in
            stays_same u r _ _ (j.differs a ready d one held apart) _ (o.differs a ready d one held apart)

    sound_receive : (mid : ℕ) (b : List ℕ) → SameHeard u (u.receive r mid b) (ours.receive s mid b)
    sound_receive mid b = go (read_of mid b) refl
      where
        go : (x : Result Packet Refusal) → read_of mid b ≡ x → SameHeard u (u.receive r mid b) (ours.receive s mid b)
        go (Ok QueryRead) e = stays_same u r _ _ ((k.obeys.answers r good).queried mid b e) _ ((ours_obeys.answers s good).queried mid b e)
        go (Ok ResetRead) e = heeds_same u _ _ _ ((k.obeys.answers r good).cleared mid b e) ((ours_obeys.answers s good).cleared mid b e)
        go (Ok (Normal id total position len)) e = joins_same mid b id total position len e
        go (Err x) e = stays_same u r _ _ ((k.obeys.answers r good).unread mid b x e) _ ((ours_obeys.answers s good).unread mid b x e)

    sound_step : SameNext u (u.step r) (ours.step s)
    sound_step =
        let x = k.obeys.steps r good in
        let y = ours_obeys.steps s good in
        record { told = x.told ∙ sym y.told; next = x.next ∙ sym y.next }

    sound_clear : SameNext u (u.clear r) (ours.clear s)
    sound_clear =
        let x = k.obeys.clears r good in
        let y = ours_obeys.clears s good in
        record { told = x.told ∙ sym y.told; next = x.next ∙ sym y.next }

  -- one that isn't sound: 16, and all stays
  module _ (r : R) (bad : sound_of (u.holds r) ≡ false) where
    abbrev i : Sign
    i = u.holds r

    sixteen : (t : Told) → t ≡ no 16 → t.number ≡ 0 → ⊥
    sixteen t e z = let n : ◌≡◌ {A = ℕ} 16 0 = sym (ap (λ (x : Told). x.number) e) ∙ z in omega arith

    unsound_receive : (mid : ℕ) (b : List ℕ) → SameHeard u (u.receive r mid b) (ours.receive i mid b)
    unsound_receive mid b =
        let e = k.safe.receive_unsound r mid b bad in
        let f = ours_never_trips.receive_unsound i mid b bad in
        record {
          told = e ∙ sym f;
          next = ap u.holds (k.safe.receive_leaves r mid b (sixteen _ e)) ∙ sym (ours_never_trips.receive_leaves i mid b (sixteen _ f));
          body = k.safe.receive_empty r mid b (sixteen _ e) ∙ sym (ours_never_trips.receive_empty i mid b (sixteen _ f));
        }

    unsound_step : SameNext u (u.step r) (ours.step i)
    unsound_step =
        let e = k.safe.step_unsound r bad in
        let f = ours_never_trips.step_unsound i bad in
        record {
          told = e ∙ sym f;
          next = ap u.holds (k.safe.step_leaves r (sixteen _ e)) ∙ sym (ours_never_trips.step_leaves i (sixteen _ f));
        }

    unsound_clear : SameNext u (u.clear r) (ours.clear i)
    unsound_clear =
        let e = k.safe.clear_unsound r bad in
        let f = ours_never_trips.clear_unsound i bad in
        record {
          told = e ∙ sym f;
          next = ap u.holds (k.safe.clear_leaves r (sixteen _ e)) ∙ sym (ours_never_trips.clear_leaves i (sixteen _ f));
        }

    unsound_wrote : (w v : Wrote) (out : List ℕ) → w.told ≡ no 16 → w.buffer ≡ out → v.told ≡ no 16 → v.buffer ≡ out → w ≡ v
    unsound_wrote w v out a c d e =
        ap (λ (t : Told). record { told = t; buffer = w.buffer }) (a ∙ sym d) ∙ ap (λ (x : List ℕ). record { told = v.told; buffer = x }) (c ∙ sym e)

    unsound_reply : (mid : ℕ) (sink : Bool) (out : List ℕ) → u.reply r mid sink out ≡ ours.reply i mid sink out
    unsound_reply mid sink out =
        let e = k.safe.reply_unsound r mid sink out bad in
        let f = ours_never_trips.reply_unsound i mid sink out bad in
        unsound_wrote _ _ out e (k.safe.reply_leaves r mid sink out (sixteen _ e)) f (ours_never_trips.reply_leaves i mid sink out (sixteen _ f))

    unsound_copy : (out : List ℕ) → u.copy r out ≡ ours.copy i out
    unsound_copy out =
        let e = k.safe.copy_unsound r out bad in
        let f = ours_never_trips.copy_unsound i out bad in
        unsound_wrote _ _ out e (k.safe.copy_leaves r out (sixteen _ e)) f (ours_never_trips.copy_leaves i out (sixteen _ f))

  -- sound or not
  either : (P : Type 0) (r : R) → Roomy (u.holds r) → (Good (u.holds r) → P) → (sound_of (u.holds r) ≡ false → P) → P
  either P r roomy sound not_sound = go (sound_of (u.holds r)) refl
    where
      go : (t : Bool) → sound_of (u.holds r) ≡ t → P
      go true e = sound (record { sound = e; roomy = roomy })
      go false e = not_sound e

  pins_repeat : (body : List ℕ) (place len : ℕ) (standing : List ℕ) → u.repeat body place len standing ≡ ours.repeat body place len standing
  pins_repeat body zero len standing = k.obeys.standing body len standing ∙ sym (ours_obeys.standing body len standing)
  pins_repeat body (suc place) len standing = go (leb (suc place + len) (length body)) refl
    where
      go : (t : Bool) → leb (suc place + len) (length body) ≡ t → u.repeat body (suc place) len standing ≡ ours.repeat body (suc place) len standing
      go true e =
          let fits = leb-true (suc place + len) (length body) e in
          k.obeys.stretch body (suc place) len standing (λ z. omega arith) fits ∙ sym (ours_obeys.stretch body (suc place) len standing (λ z. omega arith) fits)
      go false e =
          let far = leb-false (suc place + len) (length body) e in
          k.obeys.outside body (suc place) len standing far ∙ sym (ours_obeys.outside body (suc place) len standing far)

  pub no_other_unit : Same u
  no_other_unit =
      record {
        read = pins_read;
        hear = pins_hear;
        query = λ mid out. one_wrote _ _ out (u.query mid out) (k.wire.writes.queries mid out);
        reset = λ mid out. one_wrote _ _ out (u.reset mid out) (k.wire.writes.resets mid out);
        write = λ mid id body position out. one_wrote _ _ out (u.write mid id body position out) (k.wire.writes.writes mid id body position out);
        transmit = λ mid id body out. one_wrote _ _ out (u.transmit mid id body out) (k.wire.writes.transmits mid id body out);
        answer = λ mid last busy sink out. one_wrote _ _ out (u.answer mid last busy sink out) (k.wire.writes.replies mid last busy sink out);
        judge = pins_judge;
        forecast = pins_forecast;
        power = k.obeys.powers;
        receive = λ r roomy mid b. either _ r roomy (λ good. sound_receive r good mid b) (λ bad. unsound_receive r bad mid b);
        step = λ r roomy. either _ r roomy (λ good. sound_step r good) (λ bad. unsound_step r bad);
        clear = λ r roomy. either _ r roomy (λ good. sound_clear r good) (λ bad. unsound_clear r bad);
        reply = λ r roomy mid sink out.
            either _ r roomy
            (λ good.
            one_wrote _ _ out (u.reply r mid sink out) (k.obeys.replies r good mid sink out)
            ∙ sym (one_wrote _ _ out (ours.reply (u.holds r) mid sink out) (ours_obeys.replies (u.holds r) good mid sink out)))
            (λ bad. unsound_reply r bad mid sink out);
        copy = λ r roomy out.
            either _ r roomy
            (λ good.
            one_wrote _ _ out (u.copy r out) (k.obeys.copies r good out)
            ∙ sym (one_wrote _ _ out (ours.copy (u.holds r) out) (ours_obeys.copies (u.holds r) good out)))
            (λ bad. unsound_copy r bad out);
        repeat = pins_repeat;
      }
