-- Accepted packets of equal fields are equal bytes: what the reader accepts is the one packet of its fields.
use Prim.Native.Nat.{ℕ, zero, suc, ◌+◌, ◌-◌, ◌/◌, ◌%◌, ◌≤◌, ◌<◌}
use mathlib.Core.Path.{◌≡◌, refl, sym, ap, ◌∙◌}
use mathlib.Core.List.{List, [], ◌∷◌, ◌++◌}
use mathlib.Core.Bool.{Bool, true, false, not}
use native.Mathlib.Omega.{arith}
use lib.ListN.{length, take, drop, get_or, length-take, length-drop}
use lib.Seq.{take-add}
use lib.Dec.{eqb, ltb, leb}
use borrow.Author.Tests.{ltb-false, leb-false, eqb-true, eqb-false, not-false}
use Rattle.basis.specs.Bytes.{sum, Bytes}
use Rattle.basis.specs.Choice.{when}
use Rattle.basis.specs.Rows.{first_of, Rising, Passed}
use Rattle.basis.proofs.Bytes.{five_front}
use Rattle.basis.proofs.Choices.{when_false}
use Rattle.basis.proofs.Rows.{all_passed}
use Rattle.std.specs.Prelude.{Result, Ok}
use Rattle.refusal.specs.Refusal.{refused_or}
use Rattle.refusal.specs.declared.Refusal.{Refusal}
use Rattle.packet.proofs.Seals.{only_seal}
use Rattle.packet.specs.Wire.{sealed, fifth_of, front_of, packet_of, query_of, reset_of}
use Rattle.reader.specs.Read.{lowest_of, read_of, rows_of, field_rows, reading_of, wrong_place}
use Rattle.reader.specs.declared.read.Packet.{Packet}
use Rattle.reader.specs.declared.read.Packet.TheVariants.{Query, Reset, Normal}
use Rattle.reader.proofs.Guard.{read_past}

-- a frame that numbers 1 to 8 let pass
pub record Framed (mid : ℕ) (b : List ℕ) : Type 0 where
  pub least : 7 ≤ length b
  pub most : length b ≤ 21
  pub count : get_or b 2 0 ≡ length b
  pub balance : sum b % 256 ≡ 0
  pub to_it : get_or b 0 0 ≡ mid
  pub mark : get_or b 1 0 ≡ 0x7F
  pub ended : get_or b (length b - 2) 0 ≡ 0
  pub known : get_or b 3 0 ≤ 0x41
  pub fields : Passed (field_rows (get_or b 3 0) (get_or b 4 0) (length b))

same : (x y : ℕ) → not (eqb x y) ≡ false → x ≡ y
same x y e = eqb-true x y (not-false (eqb x y) e)

-- the table of numbers 1 to 11 is in rising order
pub table_rises : (mid : ℕ) (b : List ℕ) → Rising 0 (rows_of mid b)
table_rises mid b = omega arith

pub framed : (mid : ℕ) (b : List ℕ) → first_of (rows_of mid b) ≡ 0 → Framed mid b
framed mid b e =
    let p = all_passed (rows_of mid b) 0 (table_rises mid b) e in
    let q = p.1.1.1.1 in
    record {
      least = ltb-false (length b) 7 p.0;
      most = ltb-false 21 (length b) p.1.0;
      count = same (get_or b 2 0) (length b) p.1.1.0;
      balance = same (sum b % 256) 0 p.1.1.1.0;
      to_it = same (get_or b 0 0) mid q.0;
      mark = same (get_or b 1 0) 0x7F q.1.0;
      ended = same (get_or b (length b - 2) 0) 0 q.1.1.0;
      known = ltb-false 0x41 (get_or b 3 0) q.1.1.1.0;
      fields = q.1.1.1.1;
    }

-- the first five bytes and the data behind them, as the writer lays them
front_is : (mid : ℕ) (b : List ℕ) → Framed mid b → take (length b - 2) b ≡ front_of mid (get_or b 3 0) (get_or b 4 0) (take (length b - 7) (drop 5 b))
front_is mid b f =
    let n = length b - 7 in
    let part = take n (drop 5 b) in
    let least : 5 ≤ length b = omega (arith, f.least) in
    let cut : length b - 2 ≡ 5 + n = omega (arith, f.least) in
    let size : length b ≡ length part + 7 = omega (arith, f.least, length-take n (drop 5 b), length-drop 5 b) in
    let count : get_or b 2 0 ≡ length part + 7 = f.count ∙ size in
    ap (λ (k : ℕ). take k b) cut
    ∙ take-add 5 n b
    ∙ ap (λ (r : List ℕ). r ++ part) (five_front b least)
    ∙ ap (λ (x : ℕ). x ∷ get_or b 1 0 ∷ get_or b 2 0 ∷ get_or b 3 0 ∷ get_or b 4 0 ∷ part) f.to_it
    ∙ ap (λ (x : ℕ). mid ∷ x ∷ get_or b 2 0 ∷ get_or b 3 0 ∷ get_or b 4 0 ∷ part) f.mark
    ∙ ap (λ (x : ℕ). mid ∷ 0x7F ∷ x ∷ get_or b 3 0 ∷ get_or b 4 0 ∷ part) count

-- what the reader accepts is the packet of its own fields
pub rebuilt : (mid : ℕ) (b : List ℕ) → Bytes b → Framed mid b
    → b ≡ packet_of mid (get_or b 3 0) (get_or b 4 0) (take (length b - 7) (drop 5 b))
unfolding packet_of
rebuilt mid b bytes f =
    let size : length b ≡ length b - 2 + 2 = omega (arith, f.least) in
    only_seal b (length b - 2) bytes size f.ended f.balance ∙ ap sealed (front_is mid b f)

-- an answer that is no refusal was not refused
answered : (n : ℕ) (a r : Packet) → ◌≡◌ {A = Result Packet Refusal} (refused_or n a) (Ok r) → (n ≡ 0) × (a ≡ r)
answered zero a r e = (refl, cc)
answered (suc n) a r e = let z : ◌≡◌ {A = ℕ} 0 1 = cc in absurd (omega arith)

-- so its MID passed the guard, and its packet the whole table
pub passed : (mid : ℕ) (b : List ℕ) (r : Packet) → read_of mid b ≡ Ok r
    → (first_of (rows_of mid b) ≡ 0) × (reading_of (get_or b 3 0) (get_or b 4 0) (length b) ≡ r)
unfolding lowest_of
passed mid b r e =
    let past = read_past mid b (Ok r) e (λ q. let z : ◌≡◌ {A = ℕ} 0 1 = cc in omega arith) in
    answered (first_of (rows_of mid b)) (reading_of (get_or b 3 0) (get_or b 4 0) (length b)) r past.1

-- the fields that were read are those of the bytes
fields_are : (t u : Bool) (id fifth len i n p l : ℕ)
    → when t (Normal id (fifth / 16) (fifth % 16) (len - 7)) (when u Query Reset) ≡ Normal i n p l
    → (id ≡ i) × ((fifth ≡ fifth_of n p) × (len - 7 ≡ l))
fields_are true u id fifth len i n p l e =
    let total : fifth / 16 ≡ n = cc in
    let position : fifth % 16 ≡ p = cc in
    (cc, (omega arith, cc))
fields_are false true id fifth len i n p l e = let z : ◌≡◌ {A = ℕ} 0 1 = cc in absurd (omega arith)
fields_are false false id fifth len i n p l e = let z : ◌≡◌ {A = ℕ} 0 1 = cc in absurd (omega arith)

-- an accepted normal packet is the packet of its fields and its data
pub normal_only : (mid : ℕ) (b : List ℕ) (id total position len : ℕ) → Bytes b → read_of mid b ≡ Ok (Normal id total position len)
    → b ≡ packet_of mid id (fifth_of total position) (take len (drop 5 b))
normal_only mid b id total position len bytes e =
    let p = passed mid b (Normal id total position len) e in
    let f = framed mid b p.0 in
    let w = fields_are (leb (get_or b 3 0) 0x3F) (eqb (get_or b 3 0) 0x40) (get_or b 3 0) (get_or b 4 0) (length b) id total position len p.1 in
    rebuilt mid b bytes f
    ∙ ap (λ (x : ℕ). packet_of mid x (get_or b 4 0) (take (length b - 7) (drop 5 b))) w.0
    ∙ ap (λ (x : ℕ). packet_of mid id x (take (length b - 7) (drop 5 b))) w.1.0
    ∙ ap (λ (x : ℕ). packet_of mid id (fifth_of total position) (take x (drop 5 b))) w.1.1

-- so two of equal fields and data are equal bytes
pub same_fields : (mid : ℕ) (b b' : List ℕ) (id total position len : ℕ) → Bytes b → Bytes b'
    → read_of mid b ≡ Ok (Normal id total position len)
    → read_of mid b' ≡ Ok (Normal id total position len)
    → take len (drop 5 b) ≡ take len (drop 5 b')
    → b ≡ b'
same_fields mid b b' id total position len h h' e e' d =
    normal_only mid b id total position len h e
    ∙ ap (packet_of mid id (fifth_of total position)) d
    ∙ sym (normal_only mid b' id total position len h' e')

-- a query or reset that passed carries nothing but 10h
bare : (id fifth len : ℕ) → leb id 0x3F ≡ false → 7 ≤ len → Passed (field_rows id fifth len) → (fifth ≡ 0x10) × (len ≡ 7)
bare id fifth len special least p =
    let short : ltb 7 len ≡ false = sym (when_false (leb id 0x3F) (eqb len 7) (ltb 7 len) special) ∙ p.0 in
    let ten : not (eqb fifth 0x10) ≡ false =
    sym (when_false (leb id 0x3F) (wrong_place (fifth / 16) (fifth % 16)) (not (eqb fifth 0x10)) special) ∙ p.1.0 in
    (same fifth 0x10 ten, omega (arith, ltb-false 7 len short))

-- what the ID of a query or reset was
which : (t u : Bool) (id fifth len : ℕ) (r : Packet) → when t (Normal id (fifth / 16) (fifth % 16) (len - 7)) (when u Query Reset) ≡ r
    → ((i n p l : ℕ) → r ≡ Normal i n p l → ⊥)
    → (t ≡ false) × (when u Query Reset ≡ r)
which true u id fifth len r e other = absurd (other id (fifth / 16) (fifth % 16) (len - 7) (sym e))
which false u id fifth len r e other = (refl, e)

-- an accepted packet that is not normal carries its ID alone
special_only : (mid : ℕ) (b : List ℕ) (r : Packet) → Bytes b → read_of mid b ≡ Ok r → ((i n p l : ℕ) → r ≡ Normal i n p l → ⊥)
    → (b ≡ packet_of mid (get_or b 3 0) 0x10 []) × ((get_or b 3 0 ≤ 0x41) × ((leb (get_or b 3 0) 0x3F ≡ false) × (when (eqb (get_or b 3 0) 0x40) Query Reset ≡ r)))
special_only mid b r bytes e other =
    let p = passed mid b r e in
    let f = framed mid b p.0 in
    let id = get_or b 3 0 in
    let w = which (leb id 0x3F) (eqb id 0x40) id (get_or b 4 0) (length b) r p.1 other in
    let n = bare id (get_or b 4 0) (length b) w.0 f.least f.fields in
    let none : length b - 7 ≡ 0 = omega (arith, n.1) in (
      rebuilt mid b bytes f
          ∙ ap (λ (x : ℕ). packet_of mid id x (take (length b - 7) (drop 5 b))) n.0
          ∙ ap (λ (x : ℕ). packet_of mid id 0x10 (take x (drop 5 b))) none,
      (f.known, w),
    )

pub query_only : (mid : ℕ) (b : List ℕ) → Bytes b → read_of mid b ≡ Ok Query → b ≡ query_of mid
query_only mid b bytes e =
    let s = special_only mid b Query bytes e (λ i n p l q. let z : ◌≡◌ {A = ℕ} 0 1 = cc in omega arith) in
    s.0 ∙ ap (λ (x : ℕ). packet_of mid x 0x10 []) (go (eqb (get_or b 3 0) 0x40) refl s.1.1.1)
  where
    go : (t : Bool) → eqb (get_or b 3 0) 0x40 ≡ t → when t Query Reset ≡ Query → get_or b 3 0 ≡ 0x40
    go true q w = eqb-true _ _ q
    go false q w = let z : ◌≡◌ {A = ℕ} 0 1 = cc in absurd (omega arith)

pub reset_only : (mid : ℕ) (b : List ℕ) → Bytes b → read_of mid b ≡ Ok Reset → b ≡ reset_of mid
reset_only mid b bytes e =
    let s = special_only mid b Reset bytes e (λ i n p l q. let z : ◌≡◌ {A = ℕ} 0 1 = cc in omega arith) in
    s.0 ∙ ap (λ (x : ℕ). packet_of mid x 0x10 []) (go (eqb (get_or b 3 0) 0x40) refl s.1.0 (leb-false _ _ s.1.1.0) s.1.1.1)
  where
    go : (t : Bool) → eqb (get_or b 3 0) 0x40 ≡ t → get_or b 3 0 ≤ 0x41 → 0x3F < get_or b 3 0 → when t Query Reset ≡ Reset → get_or b 3 0 ≡ 0x41
    go true q h l w = let z : ◌≡◌ {A = ℕ} 0 1 = cc in absurd (omega arith)
    go false q h l w = omega (arith, eqb-false (get_or b 3 0) 0x40 q)
