-- Delivery (demand 2): the packets of a body, received in order, are Stored but for the last, which releases that very body.
use Prim.Native.Nat.{ℕ, zero, suc, ◌+◌, ◌-◌, ◌*◌, ◌≤◌, ◌<◌}
use mathlib.Core.List.{List, ◌++◌}
use mathlib.Core.Bool.{Bool, true, false, not}
use mathlib.Core.Path.{◌≡◌, refl, sym, ap, ◌∙◌, subst}
use native.Mathlib.Omega.{arith}
use lib.Dec.{eqb}
use lib.ListN.{length, get_or, take, get_or-replicate, length-set, length-append}
use lib.Seq.{length-take-le, take_all, take-add, get_or-set_same, get_or-set_other}
use borrow.Author.Tests.{eq-eqb, ne_eqb}
use Rattle.basis.specs.Bytes.{laid}
use Rattle.basis.specs.Choice.{◌or◌}
use Rattle.basis.proofs.Choices.{when_true, when_false}
use Rattle.basis.proofs.Laid.{take_laid, length_laid, laid_over}
use Rattle.std.specs.Prelude.{Ok}
use Rattle.packet.specs.Wire.{total_of, part_of, fifth_of, packet_at}
use Rattle.packet.specs.Mid.{Allowed}
use Rattle.packet.proofs.Parts.{part_length}
use Rattle.packet.proofs.Stands.{part_stands}
use Rattle.reader.proofs.ReadBack.{body_reads}
use Rattle.grammar.specs.Grammar.{accepted_as}
use Rattle.judge.specs.Verdict.{Verdict, judge_of}
use Rattle.std.proofs.Common.{Ok, Err}
use Rattle.machine.specs.Step.{started_of}
use Rattle.room.specs.Room.{room_of}
use Rattle.completed.specs.Completed.{has_of, added_of}
use Rattle.collect.specs.Slots.{Collection, slots_in, held_of, slots_of, joined_of, begun_of, none_of, stored_of}
use Rattle.collect.proofs.Joined.{blank}
use Rattle.collect.proofs.Kept.{held_more}
use Rattle.collect.proofs.Sounds.{begun_slots}
use Rattle.sign.specs.Sound.{collected_of, sound_of}
use Rattle.hear.specs.Join.{begins_of, body_in, Right, Open, Whole}
use Rattle.sign.specs.Join.{sign_of, stays_of, starts_of, stores_of, release_of, counted_of, placed_of, join_of}
use Rattle.sign.specs.Receive.{heard_of, receive_of}
use Rattle.service.specs.Delivery.{after_packets, answer_to, Awaits, Delivered}
use Rattle.sign.specs.declared.Sign.{Sign}
use Rattle.sign.specs.declared.Received.{Received}
use Rattle.hear.specs.Hear.{body_length}
use Rattle.hear.specs.declared.Outcome.TheVariants.{Stored}
use Rattle.hear.proofs.Places.{stored_slots, whole_body}
use Rattle.sign.proofs.Joining.{sound_receives}
use Rattle.service.specs.Good.{Good}
use Rattle.service.proofs.Joins.{counted_stored, counted_released}
use Rattle.service.proofs.Keeps.{receive_good}

-- the collection after the first packets of a body
abbrev up_to : ℕ → List ℕ → ℕ → Collection
up_to id body zero = begun_of id (total_of body)
up_to id body (suc n) = stored_of (up_to id body n) n (part_of body n)

-- what is known of it
record Up (id : ℕ) (body : List ℕ) (k : ℕ) (c : Collection) : Type 0 where
  named : c.id ≡ id
  total : c.total ≡ total_of body
  lens : length c.lens ≡ 6
  room : length c.room ≡ 84
  slots : slots_of c.total 0 c.lens c.room ≡ true
  free : (j : ℕ) → k ≤ j → j < 6 → get_or c.lens j 0 ≡ 0
  held : held_of c.lens ≡ k
  laid_so : c.room ≡ laid (take (14 * k) body) (blank 84)

-- the packets up to one, and that one
front_next : (body : List ℕ) (n : ℕ) → take (14 * n) body ++ part_of body n ≡ take (14 * suc n) body
unfolding part_of
front_next body n = let e : 14 * n + 14 ≡ 14 * suc n = omega arith in sym (take-add (14 * n) 14 body) ∙ ap (λ (k : ℕ). take k body) e

module _ (id : ℕ) (body : List ℕ) (some : 1 ≤ length body) (most : length body ≤ 84) where
  -- each packet obeys the rules
  part_right : (p : ℕ) → p < total_of body → Right (total_of body) p (length (part_of body p))
  part_right p below =
      let size = part_length body p in
      record { least = omega arith; most = omega arith; below = below; some = omega arith; few = omega arith; full = λ more. omega arith }

  up_none : Up id body 0 (begun_of id (total_of body))
  unfolding begun_of laid held_of
  up_none =
      record {
        named = refl;
        total = refl;
        lens = refl;
        room = refl;
        slots = begun_slots id (total_of body);
        free = λ j h below. get_or-replicate 6 j 0 0 below;
        held = refl;
        laid_so = refl;
      }

  up_open : (k : ℕ) (c : Collection) → k < total_of body → Up id body k c → Open c k (length (part_of body k))
  up_open k c below u =
      let r = part_right k below in
      record {
        right = subst (λ (n : ℕ). Right n k (length (part_of body k))) (sym u.total) r;
        slots = u.slots;
        free = u.free k (omega arith) (omega (arith, r.most));
      }

  up_next : (k : ℕ) (c : Collection) → k < total_of body → Up id body k c → Up id body (suc k) (stored_of c k (part_of body k))
  unfolding stored_of
  up_next k c below u =
      let r = part_right k below in
      let part = part_of body k in
      let there : k < length c.lens = omega (arith, r.most, u.lens) in
      let at : 14 * k ≤ length body = omega arith in
      let front = take (14 * k) body in
      let lf : length front ≡ 14 * k = length-take-le (14 * k) body at in
      let cut : take (14 * k) c.room ≡ front =
      ap (take (14 * k)) u.laid_so ∙ ap (λ (n : ℕ). take n (laid front (blank 84))) (sym lf) ∙ take_laid front (blank 84) in
      let both : front ++ part ≡ take (14 * suc k) body = front_next body k in
      let size = length-append front part in
      let fits : length (take (14 * k) c.room ++ part) ≤ length c.room =
      omega (arith, ap (λ (x : List ℕ). length (x ++ part)) cut, r.few, r.most, u.room) in
      record {
        named = u.named;
        total = u.total;
        lens = length-set c.lens k (length part) ∙ u.lens;
        room = length_laid (take (14 * k) c.room ++ part) c.room fits ∙ u.room;
        slots = stored_slots c k part u.lens u.room (up_open k c below u);
        free = λ j h b. get_or-set_other c.lens k j (length part) 0 (λ e. omega arith) ∙ u.free j (omega arith) b;
        held = held_more c.lens k (length part) there (u.free k (omega arith) (omega (arith, r.most))) (λ z. omega (arith, r.some)) ∙ omega (arith, u.held);
        laid_so = ap (λ (x : List ℕ). laid (x ++ part) c.room) cut
            ∙ ap (laid (front ++ part)) u.laid_so
            ∙ laid_over (front ++ part) front (blank 84) (omega arith)
            ∙ ap (λ (x : List ℕ). laid x (blank 84)) both;
      }

  up : (k : ℕ) → k ≤ total_of body → Up id body k (up_to id body k)
  up zero h = up_none
  up (suc k) h = up_next k (up_to id body k) (omega arith) (up k (omega arith))

  -- the last packet's length stands at its position
  last_len : (k : ℕ) → k < total_of body → get_or (up_to id body (suc k)).lens k 0 ≡ length (part_of body k)
  unfolding stored_of
  last_len k below =
      let u = up k (omega arith) in
      get_or-set_same (up_to id body k).lens k (length (part_of body k)) 0 (omega (arith, u.lens))

-- a record with another collection
abbrev with_of : Sign → Collection → Sign
with_of s c = sign_of s.completed c s.run

-- the record after the first packets, short of the last
abbrev state_at : Sign → ℕ → List ℕ → ℕ → Sign
state_at s id body zero = s
state_at s id body (suc k) = with_of s (up_to id body (suc k))

module _ (s : Sign) (good : Good s) (mid id : ℕ) (body : List ℕ) (allowed : Allowed mid) (known : id ≤ 0x3F) (some : 1 ≤ length body) (most : length body ≤ 84)
    (waits : Awaits s id) where
  -- a packet of the body is joined as its part
  receives : (t : Sign) (k : ℕ) → sound_of t ≡ true → k < total_of body
      → receive_of t mid (packet_at mid id body k) ≡ join_of t id (total_of body) k (part_of body k)
  receives t k sound below =
      sound_receives t mid (packet_at mid id body k) sound
      ∙ ap (heard_of t (packet_at mid id body k)) (body_reads mid id body k allowed known some most below)
      ∙ ap (join_of t id (total_of body) k) (part_stands mid id (fifth_of (total_of body) k) (part_of body k))

  -- the first begins
  begins : join_of s id (total_of body) 0 (part_of body 0) ≡ placed_of s (begun_of id (total_of body)) 0 (part_of body 0)
  unfolding join_of
  begins =
      when_false (has_of s.completed id) _ _ waits.other
      ∙ when_false (not (eqb s.run.len 0)) _ _ (ap not (eq-eqb s.run.len 0 waits.ready))
      ∙ when_true (begins_of (collected_of s) id) _ _ waits.begins

  -- the others go on
  goes : (k : ℕ) (c : Collection) → k < total_of body → Up id body k c
      → join_of (with_of s c) id (total_of body) k (part_of body k) ≡ placed_of (with_of s c) c k (part_of body k)
  unfolding join_of
  goes k c below u =
      let more : c.total ≡ 0 → ⊥ = λ z. omega (arith, u.total) in
      let on : begins_of c id ≡ false = ap (λ (t : Bool). t or not (eqb c.id id)) (ne_eqb c.total 0 more) ∙ ap not (eq-eqb c.id id u.named) in
      when_false (has_of s.completed id) _ _ waits.other
      ∙ when_false (not (eqb s.run.len 0)) _ _ (ap not (eq-eqb s.run.len 0 waits.ready))
      ∙ when_false (begins_of c id) _ _ on
      ∙ when_false (not (eqb c.total (total_of body))) _ _ (ap not (eq-eqb c.total (total_of body) u.total))
      ∙ when_true (eqb (get_or c.lens k 0) 0) _ _ (eq-eqb (get_or c.lens k 0) 0 (u.free k (omega arith) (omega (arith, (part_right id body some most k below).most))))

  -- what is placed is Stored while packets are missing
  stores : (t : Sign) (k : ℕ) (c : Collection) → suc k < total_of body → Up id body (suc k) c → counted_of t c ≡ stores_of t c
  stores t k c more u = counted_stored t c (omega (arith, u.total, u.held))

  -- and of the whole collection the joined data are the body
  joins : (k : ℕ) (c : Collection) → suc k ≡ total_of body → Up id body (suc k) c → get_or c.lens k 0 ≡ length (part_of body k)
      → joined_of c.lens c.room ≡ body
  joins k c last u end =
      let w : Whole c = record { least = omega (arith, u.total); most = omega (arith, u.total); slots = u.slots; full = omega (arith, u.total, u.held) } in
      let at : c.total - 1 ≡ k = omega (arith, u.total) in
      let size : 14 * (c.total - 1) + get_or c.lens (c.total - 1) 0 ≡ length body =
      ap (λ (n : ℕ). 14 * n + get_or c.lens n 0) at ∙ omega (arith, end, part_length body k) in
      let all : take (14 * suc k) body ≡ body = take_all (14 * suc k) body (omega arith) in
      sym (whole_body c u.lens u.room w)
      ∙ ap (λ (n : ℕ). take n c.room) size
      ∙ ap (take (length body)) (u.laid_so ∙ ap (λ (x : List ℕ). laid x (blank 84)) all)
      ∙ take_laid body (blank 84)

  releases : (t : Sign) (k : ℕ) (c : Collection) → suc k ≡ total_of body → Up id body (suc k) c → get_or c.lens k 0 ≡ length (part_of body k)
      → counted_of t c ≡ release_of t id body
  releases t k c last u end =
      counted_released t c (omega (arith, u.total, u.held))
      ∙ ap (λ (n : ℕ). release_of t n (joined_of c.lens c.room)) u.named
      ∙ ap (release_of t id) (joins k c last u end)

  -- each packet takes its place
  places : (k : ℕ) → k < total_of body → join_of (state_at s id body k) id (total_of body) k (part_of body k) ≡ counted_of (state_at s id body k) (up_to id body (suc k))
  places zero below = begins
  places (suc k) below = goes (suc k) (up_to id body (suc k)) below (up id body some most (suc k) (omega arith))

  after_good : (k : ℕ) → Good (after_packets s mid id body k)
  after_good zero = good
  after_good (suc k) = receive_good (after_packets s mid id body k) mid (packet_at mid id body k) (after_good k)

  answers : (k : ℕ) → k < total_of body → after_packets s mid id body k ≡ state_at s id body k
      → answer_to s mid id body k ≡ counted_of (state_at s id body k) (up_to id body (suc k))
  answers k below e =
      receives (after_packets s mid id body k) k (after_good k).sound below
      ∙ ap (λ (t : Sign). join_of t id (total_of body) k (part_of body k)) e
      ∙ places k below

  stored_next : (k : ℕ) → suc k < total_of body → after_packets s mid id body k ≡ state_at s id body k
      → answer_to s mid id body k ≡ stays_of (state_at s id body (suc k)) (Ok Stored)
  stored_next zero more e = answers zero (omega arith) e ∙ stores s zero (up_to id body 1) more (up id body some most 1 (omega arith))
  stored_next (suc k) more e =
      answers (suc k) (omega arith) e
      ∙ stores (state_at s id body (suc k)) (suc k) (up_to id body (suc (suc k))) more (up id body some most (suc (suc k)) (omega arith))

  after : (k : ℕ) → k < total_of body → after_packets s mid id body k ≡ state_at s id body k
  unfolding stays_of
  after zero below = refl
  after (suc k) below = ap (λ (r : Received). r.sign) (stored_next k below (after k (omega arith)))

  -- all but the last are Stored, with no body
  pub delivers_stored : (k : ℕ) → suc k < total_of body → answer_to s mid id body k ≡ stays_of (after_packets s mid id body (suc k)) (Ok Stored)
  delivers_stored k more = stored_next k more (after k (omega arith)) ∙ ap (λ (t : Sign). stays_of t (Ok Stored)) (sym (after (suc k) more))

  -- the last releases that very body
  pub delivers_released : (k : ℕ) → suc k ≡ total_of body → answer_to s mid id body k ≡ release_of s id body
  unfolding release_of
  delivers_released zero last =
      answers zero (omega arith) refl
      ∙ releases s zero (up_to id body 1) last (up id body some most 1 (omega arith)) (last_len id body some most zero (omega arith))
  delivers_released (suc k) last =
      answers (suc k) (omega arith) (after (suc k) (omega arith))
      ∙ releases (state_at s id body (suc k)) (suc k) (up_to id body (suc (suc k))) last (up id body some most (suc (suc k)) (omega arith)) (last_len id body some most (suc k) (omega arith))

  -- the record that a body of a verdict leaves
  abbrev left : Verdict → Sign
  left v = starts_of v (sign_of (added_of s.completed id) (body_in body) (started_of (length body) s.run.settings)) (sign_of (added_of s.completed id) none_of s.run)

  delivers_left : (k : ℕ) (v : Verdict) → suc k ≡ total_of body → judge_of body ≡ v → (answer_to s mid id body k).sign ≡ left v
  unfolding release_of
  delivers_left k v last e = ap (λ (r : Received). r.sign) (delivers_released k last) ∙ ap left e

  left_accepted : (endless : Bool) → left (accepted_as endless) ≡ sign_of (added_of s.completed id) (body_in body) (started_of (length body) s.run.settings)
  left_accepted true = refl
  left_accepted false = refl

  -- whatever the verdict, the ID is completed and nothing is collected
  left_completed : (v : Verdict) → (left v).completed ≡ added_of s.completed id
  left_completed (Ok e) = refl
  left_completed (Err w) = refl

  left_none : (v : Verdict) → (left v).slots ≡ slots_in none_of
  unfolding begun_of
  left_none (Ok e) = refl
  left_none (Err w) = refl

  -- the empty room
  none_room : none_of.room ≡ blank 84
  unfolding begun_of
  none_room = refl

  -- demand 2
  pub delivers : Delivered s mid id body
  unfolding release_of room_of
  delivers =
      record {
        stored = delivers_stored;
        released = λ p e. ap (λ (r : Received). r.outcome) (delivers_released p e);
        same = λ p e. ap (λ (r : Received). take (body_length r.outcome) r.body) (delivers_released p e) ∙ take_laid body (blank 84);
        completed = λ p e. ap (λ (t : Sign). t.completed) (delivers_left p (judge_of body) e refl) ∙ left_completed (judge_of body);
        none = λ p e. ap (λ (t : Sign). t.slots) (delivers_left p (judge_of body) e refl) ∙ left_none (judge_of body);
        holds = λ p e endless q. ap (λ (t : Sign). t.room) (delivers_left p (accepted_as endless) e q ∙ left_accepted endless);
        runs = λ p e endless q. ap (λ (t : Sign). t.run) (delivers_left p (accepted_as endless) e q ∙ left_accepted endless);
        empty = λ p e w q. ap (λ (t : Sign). t.room) (delivers_left p (Err w) e q) ∙ none_room;
        rests = λ p e w q. ap (λ (t : Sign). t.run) (delivers_left p (Err w) e q);
      }

-- packets keep the record sound
pub packets_good : (s : Sign) → Good s → (mid id : ℕ) (body : List ℕ) (n : ℕ) → Good (after_packets s mid id body n)
packets_good s good mid id body zero = good
packets_good s good mid id body (suc n) = receive_good (after_packets s mid id body n) mid (packet_at mid id body n) (packets_good s good mid id body n)
