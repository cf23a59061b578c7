-- Replies: what was written reads back, and what is accepted is the one reply of its fields.
use Prim.Native.Nat.{ℕ, ◌%◌, ◌≤◌, ◌<◌}
use mathlib.Core.Path.{◌≡◌, refl, sym, ap, ◌∙◌}
use mathlib.Core.List.{List, [], ◌∷◌, ◌++◌}
use mathlib.Core.Bool.{Bool, true, false}
use native.Mathlib.Omega.{arith}
use lib.ListN.{length, get_or}
use lib.Seq.{take-suc}
use lib.Dec.{eqb}
use borrow.Author.Tests.{eqb-true}
use Rattle.basis.specs.Bytes.{sum, Bytes}
use Rattle.basis.specs.Choice.{when, ◌and◌, ◌or◌}
use Rattle.basis.proofs.Bytes.{five_front}
use Rattle.basis.proofs.Choices.{when_true, and_true, and_parts}
use Rattle.basis.proofs.Tests.{tests}
use Rattle.std.specs.Prelude.{Result, Err}
use Rattle.refusal.specs.declared.Refusal.{Refusal}
use Rattle.refusal.specs.declared.Refusal.TheVariants.{ForbiddenMid, NoReply}
use Rattle.packet.specs.Mid.{is_forbidden, Allowed}
use Rattle.packet.specs.Wire.{sealed, turned, state_of, aux_of, reply_of}
use Rattle.reply.specs.Reply.{is_last, is_reply, status_of, heard_from, heard_of, status}
use Rattle.reply.specs.declared.Status.{Status}
use Rattle.packet.proofs.Guards.{guard_stops, guard_passes, guard_past}
use Rattle.packet.proofs.Seals.{balanced, only_seal}

-- a reply's frame that is right is read by the three bytes that tell
pub reply_right : (mid : ℕ) (b : List ℕ) → length b ≡ 8 → sum b % 256 ≡ 0 → get_or b 0 0 ≡ turned mid → get_or b 1 0 ≡ 0x7F
    → get_or b 2 0 ≡ 8 → get_or b 6 0 ≡ 0 → heard_from mid b ≡ status_of (get_or b 3 0) (get_or b 4 0) (get_or b 5 0)
unfolding heard_from
reply_right mid b size balanced from_it marked count ended = search tests

-- the bytes of a reply sum to 0
pub reply_balanced : (mid last : ℕ) (busy sink : Bool) → sum (reply_of mid last busy sink) % 256 ≡ 0
unfolding reply_of
reply_balanced mid last busy sink = balanced (turned mid ∷ 0x7F ∷ 8 ∷ last ∷ state_of busy ∷ aux_of sink ∷ [])

-- the letters say what they stand for
letters_tell : (last : ℕ) (busy sink : Bool) → is_last last ≡ true → status_of last (state_of busy) (aux_of sink) ≡ status last busy sink
letters_tell last true true known = when_true (is_last last and true) _ _ (and_true _ _ known refl)
letters_tell last true false known = when_true (is_last last and true) _ _ (and_true _ _ known refl)
letters_tell last false true known = when_true (is_last last and true) _ _ (and_true _ _ known refl)
letters_tell last false false known = when_true (is_last last and true) _ _ (and_true _ _ known refl)

-- the guard: a forbidden MID is 19 whatever the bytes are, and of any other the bytes decide
pub heard_stops : (mid : ℕ) (b : List ℕ) → is_forbidden mid ≡ true → heard_of mid b ≡ Err ForbiddenMid
unfolding heard_of
heard_stops mid b e = guard_stops mid (heard_from mid b) e

pub heard_passes : (mid : ℕ) (b : List ℕ) → Allowed mid → heard_of mid b ≡ heard_from mid b
unfolding heard_of
heard_passes mid b e = guard_passes mid (heard_from mid b) e

-- what is heard passed it
pub heard_past : (mid : ℕ) (b : List ℕ) (last : ℕ) (busy sink : Bool) → heard_of mid b ≡ status last busy sink
    → Allowed mid × (heard_from mid b ≡ status last busy sink)
unfolding heard_of
heard_past mid b last busy sink e =
    guard_past mid (heard_from mid b) (status last busy sink) e (λ q. let z : ◌≡◌ {A = ℕ} 0 1 = cc in omega arith)

-- what was written reads back as its fields
pub reply_reads : (mid last : ℕ) (busy sink : Bool) → Allowed mid → is_last last ≡ true
    → heard_of mid (reply_of mid last busy sink) ≡ status last busy sink
unfolding reply_of
reply_reads mid last busy sink allowed known =
    heard_passes mid (reply_of mid last busy sink) allowed
    ∙ reply_right mid (reply_of mid last busy sink) refl (reply_balanced mid last busy sink) refl refl refl refl
    ∙ letters_tell last busy sink known

-- a byte that is one of two letters is the letter that the test between them names
letter : (x one other : ℕ) (t : Bool) → eqb x one or eqb x other ≡ true → eqb x one ≡ t → x ≡ when t one other
letter x one other true e q = eqb-true x one q
letter x one other false e q = eqb-true x other (sym (ap (λ (b : Bool). b or eqb x other) q) ∙ e)

-- three bytes that tell something are the letters of what they tell
told : (t : Bool) (last state aux l : ℕ) (busy sink : Bool)
    → when t (status last (eqb state 0x42) (eqb aux 0x53)) (Err NoReply) ≡ status l busy sink
    → (t ≡ true) × ((last ≡ l) × ((eqb state 0x42 ≡ busy) × (eqb aux 0x53 ≡ sink)))
told true last state aux l busy sink e =
    let same : ◌≡◌ {A = Status} (record { last = last; busy = eqb state 0x42; sink = eqb aux 0x53 }) (record { last = l; busy = busy; sink = sink }) = cc in
    (refl, (ap (λ (s : Status). s.last) same, (ap (λ (s : Status). s.busy) same, ap (λ (s : Status). s.sink) same)))
told false last state aux l busy sink e = let z : ◌≡◌ {A = ℕ} 0 1 = cc in absurd (omega arith)

-- an accepted reply passed its frame's test
framed_reply : (t : Bool) (s : Result Status Refusal) (l : ℕ) (busy sink : Bool) → when t s (Err NoReply) ≡ status l busy sink → (t ≡ true) × (s ≡ status l busy sink)
framed_reply true s l busy sink e = (refl, e)
framed_reply false s l busy sink e = let z : ◌≡◌ {A = ℕ} 0 1 = cc in absurd (omega arith)

-- an accepted reply is the reply of its fields
pub reply_only : (mid : ℕ) (b : List ℕ) (last : ℕ) (busy sink : Bool) → Bytes b → heard_of mid b ≡ status last busy sink
    → b ≡ reply_of mid last busy sink
unfolding heard_from reply_of
reply_only mid b last busy sink bytes e =
    let three = status_of (get_or b 3 0) (get_or b 4 0) (get_or b 5 0) in
    let f = framed_reply (is_reply mid b) three last busy sink (heard_past mid b last busy sink e).1 in
    let p1 = and_parts (eqb (length b) 8) _ f.0 in
    let p2 = and_parts (eqb (sum b % 256) 0) _ p1.1 in
    let p3 = and_parts (eqb (get_or b 0 0) (turned mid)) _ p2.1 in
    let p4 = and_parts (eqb (get_or b 1 0) 0x7F) _ p3.1 in
    let p5 = and_parts (eqb (get_or b 2 0) 8) (eqb (get_or b 6 0) 0) p4.1 in
    let t = told _ (get_or b 3 0) (get_or b 4 0) (get_or b 5 0) last busy sink f.1 in
    let k1 = and_parts (is_last (get_or b 3 0)) _ t.0 in
    let k2 = and_parts (eqb (get_or b 4 0) 0x42 or eqb (get_or b 4 0) 0x52) (eqb (get_or b 5 0) 0x53 or eqb (get_or b 5 0) 0x46) k1.1 in
    let state = letter (get_or b 4 0) 0x42 0x52 busy k2.0 t.1.1.0 in
    let aux = letter (get_or b 5 0) 0x53 0x46 sink k2.1 t.1.1.1 in
    let size : length b ≡ 8 = eqb-true (length b) 8 p1.0 in
    let least : 5 ≤ length b = omega arith in
    let more : 5 < length b = omega arith in
    only_seal b 6 bytes size (eqb-true (get_or b 6 0) 0 p5.1) (eqb-true (sum b % 256) 0 p2.0)
    ∙ ap sealed
    (take-suc b 5 0 more
    ∙ ap (λ (r : List ℕ). r ++ get_or b 5 0 ∷ []) (five_front b least)
    ∙ ap (λ (x : ℕ). x ∷ get_or b 1 0 ∷ get_or b 2 0 ∷ get_or b 3 0 ∷ get_or b 4 0 ∷ get_or b 5 0 ∷ []) (eqb-true (get_or b 0 0) (turned mid) p3.0)
    ∙ ap (λ (x : ℕ). turned mid ∷ x ∷ get_or b 2 0 ∷ get_or b 3 0 ∷ get_or b 4 0 ∷ get_or b 5 0 ∷ []) (eqb-true (get_or b 1 0) 0x7F p4.0)
    ∙ ap (λ (x : ℕ). turned mid ∷ 0x7F ∷ x ∷ get_or b 3 0 ∷ get_or b 4 0 ∷ get_or b 5 0 ∷ []) (eqb-true (get_or b 2 0) 8 p5.0)
    ∙ ap (λ (x : ℕ). turned mid ∷ 0x7F ∷ 8 ∷ x ∷ get_or b 4 0 ∷ get_or b 5 0 ∷ []) t.1.0
    ∙ ap (λ (x : ℕ). turned mid ∷ 0x7F ∷ 8 ∷ last ∷ x ∷ get_or b 5 0 ∷ []) state
    ∙ ap (λ (x : ℕ). turned mid ∷ 0x7F ∷ 8 ∷ last ∷ state_of busy ∷ x ∷ []) aux)

-- so two of equal fields are equal bytes
pub same_reply : (mid : ℕ) (b b' : List ℕ) (last : ℕ) (busy sink : Bool) → Bytes b → Bytes b' → heard_of mid b ≡ status last busy sink
    → heard_of mid b' ≡ status last busy sink
    → b ≡ b'
same_reply mid b b' last busy sink h h' e e' = reply_only mid b last busy sink h e ∙ sym (reply_only mid b' last busy sink h' e')
