-- Laws of the table: three bytes decide the row, and the caret and the letters of each row are two or three bytes.
use Prim.Native.Nat.{ℕ, ◌+◌, ◌≤◌, ◌<◌}
use mathlib.Core.Path.{◌≡◌, refl, sym, ap, ◌∙◌}
use mathlib.Core.Bool.{Bool, true, false, not}
use mathlib.Core.List.{List, [], ◌∷◌}
use native.Mathlib.Omega.{arith}
use borrow.Author.Tests.{leb-true, eq-eqb, ne_eqb, eqb-true}
use lib.Dec.{eqb, leb}
use lib.ListN.{length, get_or, drop, length-drop, drop_of_length-le}
use lib.Seq.{get_or-drop}
use Rattle.basis.specs.Choice.{when, ◌and◌}
use Rattle.params.specs.Bytes.{caret}
use Rattle.program.specs.Table.{Line, line, table, begins, row_at, known}
use Rattle.program.specs.Command.{row_of, read_of}
use Rattle.program.specs.declared.Kind.{Kind}
use Rattle.program.specs.declared.Form.{Form}
use Rattle.program.specs.declared.Row.{Row}
use Rattle.std.proofs.Common.{Some, None, Option, Bor}
use Rattle.std.specs.Slice.{IsItemAt}
use Rattle.std.specs.Option.{option_eq}
use Rattle.basis.proofs.Lists.{drop_next, get_or_other}
use Rattle.basis.proofs.Choices.{and_parts}

-- a test that every line of the table passes
abbrev pub holds : (Kind → Form → ℕ → Bool) → List Line → Bool
holds t [] = true
holds t (line ls k f ∷ rows) = t k f (length ls) and holds t rows

found_holds : (t : Kind → Form → ℕ → Bool) (rows : List Line) → holds t rows ≡ true → (s : List ℕ) (k : Kind) (f : Form) (n : ℕ) → row_at rows s ≡ Some (known k f n) → t k f n ≡ true
found_holds t [] a s k f n e = let z : ◌≡◌ {A = ℕ} 0 1 = cc in absurd (omega arith)
found_holds t (line ls j g ∷ rows) a s k f n e =
    go (begins ls s) e (found_holds t rows (and_parts (t j g (length ls)) _ a).1 s k f n)
  where
    go : (b : Bool) → when b (Some (known j g (length ls))) (row_at rows s) ≡ Some (known k f n) → (row_at rows s ≡ Some (known k f n) → t k f n ≡ true) → t k f n ≡ true
    go true e' h =
        let p = (and_parts (t j g (length ls)) _ a).0 in
        let same : known j g (length ls) ≡ known k f n = cc in
        let x : j ≡ k = ap (λ (r : Row). r.kind) same in
        let y : g ≡ f = ap (λ (r : Row). r.form) same in
        let z : length ls ≡ n = ap (λ (r : Row). r.letters) same in
        rw (← x, ← y, ← z) p
    go false e' h = h e'

-- what every line of the table passes, the row passes that the bytes name
pub row_holds : (t : Kind → Form → ℕ → Bool) → holds t table ≡ true → (s : List ℕ) (k : Kind) (f : Form) (n : ℕ) → row_at table s ≡ Some (known k f n) → t k f n ≡ true
row_holds t a = found_holds t table a

-- the caret and the letters are two or three bytes
plain : Kind → Form → ℕ → Bool
plain k f n = leb 2 n and leb n 3

pub record Plainly (n : ℕ) : Type 0 where
  pub least : 2 ≤ n
  pub most : n ≤ 3

pub row_plain : (s : List ℕ) (k : Kind) (f : Form) (n : ℕ) → row_at table s ≡ Some (known k f n) → Plainly n
unfolding plain
row_plain s k f n h =
    let e = found_holds plain table refl s k f n h in
    record {
      least = leb-true 2 n (and_parts (leb 2 n) _ e).0;
      most = leb-true n 3 (and_parts (leb 2 n) _ e).1;
    }

three : (s : List ℕ) → 0 < length s → row_at table s ≡ row_at table (get_or s 0 caret ∷ get_or s 1 caret ∷ get_or s 2 caret ∷ [])
three [] h = absurd (omega arith)
three (x ∷ []) h = refl
three (x ∷ y ∷ []) h = refl
three (x ∷ y ∷ z ∷ s) h = refl

-- the row at a place, by the byte there and the two behind it
pub row_at_place : (b : List ℕ) (p x y : ℕ) → p < length b → get_or b p 0 ≡ caret → x ≡ get_or b (p + 1) caret → y ≡ get_or b (p + 2) caret → row_at table (drop p b) ≡ row_at table (caret ∷ x ∷ y ∷ [])
row_at_place b p x y h e ex ey =
    let l : 0 < length (drop p b) = simp length-drop (omega arith) in
    let z : p + 0 ≡ p = omega arith in
    three (drop p b) l
    ∙ ap (λ (k : ℕ). row_at table (k ∷ get_or (drop p b) 1 caret ∷ get_or (drop p b) 2 caret ∷ [])) (get_or-drop p b 0 caret ∙ ap (λ (i : ℕ). get_or b i caret) z ∙ get_or_other b p caret 0 h ∙ e)
    ∙ ap (λ (k : ℕ). row_at table (caret ∷ k ∷ get_or (drop p b) 2 caret ∷ [])) (get_or-drop p b 1 caret ∙ sym ex)
    ∙ ap (λ (k : ℕ). row_at table (caret ∷ x ∷ k ∷ [])) (get_or-drop p b 2 caret ∙ sym ey)

no_caret : (x : ℕ) (s : List ℕ) → (x ≡ caret → ⊥) → row_at table (x ∷ s) ≡ None
no_caret x s h = simp (ne_eqb x caret h)

-- where no caret stands, no row
pub row_no_caret : (b : List ℕ) (p : ℕ) → p < length b → (get_or b p 0 ≡ caret → ⊥) → row_at table (drop p b) ≡ None
row_no_caret b p h n =
    ap (row_at table) (drop_next b p caret h) ∙ no_caret (get_or b p caret) (drop (p + 1) b) (λ e. n (get_or_other b p 0 caret h ∙ e))

pub row_behind : (b : List ℕ) (p : ℕ) → length b ≤ p → row_at table (drop p b) ≡ None
row_behind b p h = ap (row_at table) (drop_of_length-le b h)

-- whether the library's `get` finds a caret at a place
pub got_caret : (b : List ℕ) (p : ℕ) (r : Option (Bor ℕ)) (k : Bor ℕ) → IsItemAt b p r → k.now ≡ caret
    → false ≡ not (option_eq (λ (x y : Bor ℕ). eqb x.now y.now) r (Some k)) → (p < length b) × (get_or b p 0 ≡ caret)
got_caret b p None k h e t = let z : ◌≡◌ {A = ℕ} 0 1 = cc in absurd (omega arith)
got_caret b p (Some x) k h e t =
    let same : eqb x.now k.now ≡ true = by (eqb x.now k.now) t in
    (h.3.0, sym (h.4 (omega arith) 0) ∙ eqb-true x.now k.now same ∙ e)
  where
    by : (u : Bool) → false ≡ not u → u ≡ true
    by true w = refl
    by false w = let z : ◌≡◌ {A = ℕ} 0 1 = cc in absurd (omega arith)

pub got_other : (b : List ℕ) (p : ℕ) (r : Option (Bor ℕ)) (k : Bor ℕ) → IsItemAt b p r → k.now ≡ caret
    → true ≡ not (option_eq (λ (x y : Bor ℕ). eqb x.now y.now) r (Some k)) → row_at table (drop p b) ≡ None
got_other b p None k h e t = row_behind b p h.3
got_other b p (Some x) k h e t =
    row_no_caret b p h.3.0 (λ c. by (eqb x.now k.now) (eq-eqb x.now k.now (h.4 (omega arith) 0 ∙ c ∙ sym e)) t)
  where
    by : (u : Bool) → u ≡ true → true ≡ not u → ⊥
    by true v w = let z : ◌≡◌ {A = ℕ} 0 1 = cc in omega arith
    by false v w = let z : ◌≡◌ {A = ℕ} 0 1 = cc in omega arith

-- what stands at a place, by the row that was found there
module _ (b : List ℕ) (p x y : ℕ) (found : Option Row) (h : p < length b) (e : get_or b p 0 ≡ caret) (ex : x ≡ get_or b (p + 1) caret) (ey : y ≡ get_or b (p + 2) caret) (ef : found ≡ row_at table (caret ∷ x ∷ y ∷ [])) where
  pub read_row : (r : Option Row) → found ≡ r → read_of b p ≡ row_of b p r
  unfolding read_of
  read_row r t = ap (row_of b p) (row_at_place b p x y h e ex ey ∙ sym ef ∙ t)
