-- What the reader lets pass obeys the packet rules, and its data lie within its bytes.
use Prim.Native.Nat.{ℕ, ◌+◌, ◌-◌, ◌/◌, ◌%◌, ◌≤◌, ◌<◌}
use mathlib.Core.List.{List}
use mathlib.Core.Bool.{Bool, true, false, not}
use mathlib.Core.Path.{◌≡◌, refl, sym, ap, ◌∙◌, subst}
use native.Mathlib.Omega.{arith}
use lib.Dec.{eqb, ltb, leb}
use lib.ListN.{length, get_or, take, drop, length-drop}
use lib.Seq.{length-take-le}
use borrow.Author.Tests.{ltb-false, leb-false, eqb-false, lt-ltb, leb-true}
use Rattle.basis.specs.Choice.{when, ◌and◌, ◌or◌}
use Rattle.std.specs.Prelude.{Ok}
use Rattle.reader.specs.Read.{wrong_place, read_of}
use Rattle.reader.specs.declared.read.Packet.TheVariants.{Query, Reset, Normal}
use Rattle.reader.proofs.Unique.{passed, framed}
use Rattle.hear.specs.Join.{Right}

-- none of the tests of a disjunction holds
neither : (a b : Bool) → a or b ≡ false → (a ≡ false) × (b ≡ false)
neither true b e = let z : ◌≡◌ {A = ℕ} 0 1 = cc in (absurd (omega arith), absurd (omega arith))
neither false b e = (refl, e)

pub record Read (b : List ℕ) (id total position len : ℕ) : Type 0 where
  pub right : Right total position len
  pub known : id ≤ 0x3F
  pub size : len + 7 ≡ length b

-- by the fifth byte and the length, of a normal ID
fields : (t u : Bool) (b : List ℕ) (i fifth n id total position len : ℕ) → leb i 0x3F ≡ t → n ≡ length b → 7 ≤ n → n ≤ 21
    → when t (eqb n 7) (ltb 7 n) ≡ false
    → when t (wrong_place (fifth / 16) (fifth % 16)) (not (eqb fifth 0x10)) ≡ false
    → ltb (fifth % 16 + 1) (fifth / 16) and ltb (n - 7) 14 ≡ false
    → when t (Normal i (fifth / 16) (fifth % 16) (n - 7)) (when u Query Reset) ≡ Normal id total position len
    → Read b id total position len
fields true u b i fifth n id total position len normal whole least most f9 f10 f11 e =
    let same : i ≡ id = cc in
    let count : fifth / 16 ≡ total = cc in
    let place : fifth % 16 ≡ position = cc in
    let size : n - 7 ≡ len = cc in
    let w = neither (ltb (fifth / 16) 1) (ltb 6 (fifth / 16) or leb (fifth / 16) (fifth % 16)) f10 in
    let v = neither (ltb 6 (fifth / 16)) (leb (fifth / 16) (fifth % 16)) w.1 in
    let a = ltb-false (fifth / 16) 1 w.0 in
    let m = ltb-false 6 (fifth / 16) v.0 in
    let p = leb-false (fifth / 16) (fifth % 16) v.1 in
    let seven : n ≡ 7 → ⊥ = eqb-false n 7 f9 in
    let some : 1 ≤ len = omega arith in
    let known : id ≤ 0x3F = omega (arith, leb-true i 0x3F normal) in
    record {
      right = record {
        least = omega arith;
        most = omega arith;
        below = omega arith;
        some = some;
        few = omega arith;
        full = λ more. all more count place size;
      };
      known = known;
      size = omega arith;
    }
  where
    all : position + 1 < total → fifth / 16 ≡ total → fifth % 16 ≡ position → n - 7 ≡ len → len ≡ 14
    all more count place size =
        let t : ltb (fifth % 16 + 1) (fifth / 16) ≡ true = lt-ltb (fifth % 16 + 1) (fifth / 16) (omega arith) in
        let enough : 14 ≤ n - 7 = ltb-false (n - 7) 14 (sym (ap (λ (x : Bool). x and ltb (n - 7) 14) t) ∙ f11) in
        omega arith
fields false true b i fifth n id total position len normal whole least most f9 f10 f11 e = let z : ◌≡◌ {A = ℕ} 0 1 = cc in absurd (omega arith)
fields false false b i fifth n id total position len normal whole least most f9 f10 f11 e = let z : ◌≡◌ {A = ℕ} 0 1 = cc in absurd (omega arith)

pub normal_read : (mid : ℕ) (b : List ℕ) (id total position len : ℕ) → read_of mid b ≡ Ok (Normal id total position len) → Read b id total position len
normal_read mid b id total position len e =
    let p = passed mid b (Normal id total position len) e in
    let f = framed mid b p.0 in
    fields (leb (get_or b 3 0) 0x3F) (eqb (get_or b 3 0) 0x40) b (get_or b 3 0) (get_or b 4 0) (length b) id total position len refl refl
    f.least
    f.most
    f.fields.0
    f.fields.1.0
    f.fields.1.1.0
    p.1

-- the data have the length that was read
pub part_right : (b : List ℕ) (id total position len : ℕ) → Read b id total position len → Right total position (length (take len (drop 5 b)))
part_right b id total position len r =
    let fits : len ≤ length (drop 5 b) = omega (arith, length-drop 5 b, r.size) in
    subst (λ (n : ℕ). Right total position n) (sym (length-take-le len (drop 5 b) fits)) r.right

-- also as the code cuts them off
pub right_part : (b : List ℕ) (id total position len : ℕ) → Read b id total position len
    → Right total position (length (take (5 + len - 5) (drop 5 b)))
right_part b id total position len r =
    let e : len ≡ 5 + len - 5 = omega arith in
    subst (λ (n : ℕ). Right total position (length (take n (drop 5 b)))) e (part_right b id total position len r)
