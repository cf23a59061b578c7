-- A text passed in pieces: what stands in front of a piece does not count, so after each piece the text reads as if it began there.
use Prim.Native.Nat.{ℕ, suc, ◌+◌}
use mathlib.Core.Path.{◌≡◌, refl, sym, ap, ◌∙◌}
use mathlib.Core.Bool.{Bool, true, false}
use mathlib.Core.List.{List, [], ◌∷◌}
use native.Mathlib.Omega.{arith}
use borrow.Author.Tests.{eqb-true, eq-eqb, ne_eqb, ltb-false}
use lib.Dec.{eqb, ltb}
use lib.Seq.{drop-drop}
use lib.ListN.{length, get_or, drop}
use Rattle.basis.specs.Choice.{when, ◌and◌, ◌or◌}
use Rattle.basis.proofs.Choices.{when_true, when_false}
use Rattle.std.specs.Prelude.{cond, not, position}
use Rattle.std.specs.Option.{unwrap_or}
use Rattle.std.specs.List.{position_or_len}
use Rattle.std.proofs.lemmas.List.Sums.{prefix_len-le-length}
use Rattle.params.specs.Bytes.{caret, param_of, first_of, read_to}
use Rattle.params.specs.Kinds.{ByteKind, Plain, Caret, Tilde, Column, kind_of, kind_digit, kind_is}
use Rattle.params.specs.Text.{is_letter, may_run, wrong_of, text_of}
use Rattle.params.specs.Pieces.{run_length, piece_of}
use Rattle.params.specs.declared.Parameter.{Parameter}
use Rattle.refusal.specs.declared.Fault.{Fault}
use Rattle.refusal.specs.Refusal.{fault}
use Rattle.std.proofs.Common.{Result, Ok, Err, Some, None}
use Rattle.params.proofs.Places.{param_cons, param_first}
use Rattle.params.proofs.Texts.{text_next}

and_false : (a : Bool) → a and false ≡ false
and_false true = refl
and_false false = refl

or_true : (a : Bool) → a or true ≡ true
or_true true = refl
or_true false = refl

or_cases : {C : Type 0} (a b : Bool) → a or b ≡ true → (a ≡ true → C) → (b ≡ true → C) → C
or_cases true b e f g = f refl
or_cases false b e f g = g e

-- what the test for any kind says of a byte of one kind; the kind of a byte that is known by another name; the test for a kind by its digit;
-- a byte of another kind is no caret
kind_known : (j k : ByteKind) (x : ℕ) → kind_is j x ≡ true → kind_is k x ≡ eqb (kind_digit j) (kind_digit k)
kind_known j k x e = ap (λ (n : ℕ). eqb n (kind_digit k)) (eqb-true (kind_digit (kind_of x)) (kind_digit j) e)

pub kind_yes : (k : ByteKind) (x n : ℕ) → n ≡ kind_digit (kind_of x) → n ≡ kind_digit k → kind_is k x ≡ true
kind_yes k x n e h = eq-eqb (kind_digit (kind_of x)) (kind_digit k) (sym e ∙ h)

pub kind_no : (k : ByteKind) (x n : ℕ) → n ≡ kind_digit (kind_of x) → (n ≡ kind_digit k → ⊥) → kind_is k x ≡ false
kind_no k x n e h = ne_eqb (kind_digit (kind_of x)) (kind_digit k) (λ z. h (e ∙ z))

not_caret : (k : ByteKind) (x : ℕ) → kind_is k x ≡ true → (kind_digit Caret ≡ kind_digit k → ⊥) → x ≡ caret → ⊥
not_caret k x e n z = n (sym (ap (λ (y : ℕ). kind_digit (kind_of y)) z) ∙ eqb-true (kind_digit (kind_of x)) (kind_digit k) e)

letter_plain : (l : ℕ) → is_letter l ≡ true → kind_is Plain l ≡ true
letter_plain l e =
    or_cases (eqb l 0x42) _ e (named 0x42 refl) (λ e. or_cases (eqb l 0x62) _ e (named 0x62 refl) (λ e. or_cases (eqb l 0x43) _ e (named 0x43 refl) (λ e. or_cases (eqb l 0x63) _ e (named 0x63 refl) (λ e. or_cases (eqb l 0x44) _ e (named 0x44 refl) (λ e. or_cases (eqb l 0x64) _ e (named 0x64 refl) (named 0x47 refl))))))
  where
    named : (c : ℕ) → kind_is Plain c ≡ true → eqb l c ≡ true → kind_is Plain l ≡ true
    named c h e = ap (kind_is Plain) (eqb-true l c e) ∙ h

-- the fault of a byte by its kind
module _ (q p x n : ℕ) where
  wrong_plain : kind_is Plain x ≡ true → wrong_of q p x n ≡ 0
  wrong_plain e = when_true (kind_is Plain x) _ _ e

  pub wrong_tilde : kind_is Tilde x ≡ true → wrong_of q p x n ≡ when (is_letter n) 0 25
  wrong_tilde e = when_false (kind_is Plain x) _ _ (kind_known Tilde Plain x e) ∙ when_true (kind_is Tilde x) _ _ e

  wrong_column : kind_is Column x ≡ true → wrong_of q p x n ≡ when (may_run q p) 0 24
  wrong_column e =
      when_false (kind_is Plain x) _ _ (kind_known Column Plain x e)
      ∙ when_false (kind_is Tilde x) _ _ (kind_known Column Tilde x e)
      ∙ ap (λ (t : Bool). when (t and may_run q p) 0 24) e

  pub wrong_other : kind_is Plain x ≡ false → kind_is Tilde x ≡ false → may_run q p ≡ false → wrong_of q p x n ≡ 24
  wrong_other e f r =
      when_false (kind_is Plain x) _ _ e
      ∙ when_false (kind_is Tilde x) _ _ f
      ∙ ap (λ (t : Bool). when (kind_is Column x and t) 0 24) r
      ∙ ap (λ (t : Bool). when t 0 24) (and_false (kind_is Column x))

  same_fault : (s r : ℕ) → kind_is Column x and may_run q p ≡ kind_is Column x and may_run s r → wrong_of q p x n ≡ wrong_of s r x n
  same_fault s r e = ap (λ (t : Bool). when (kind_is Plain x) 0 (when (kind_is Tilde x) (when (is_letter n) 0 25) (when t 0 24))) e

-- of two bytes in front the first counts only where it is a tilde, and both only where the last is a tilde or a column follows that may
-- run on
last_alone : (p x i : ℕ) (ds : List ℕ) → kind_is Tilde p ≡ false → text_of p x i ds ≡ text_of 0 x i ds
last_alone p x i [] e = refl
last_alone p x i (y ∷ ys) e =
    let m : may_run p x ≡ may_run 0 x = ap (λ (t : Bool). kind_is Column x or (t and eqb x 0x47)) e in
    ap (λ (w : ℕ). when (eqb w 0) (text_of x y (i + 1) ys) (Err (fault w i))) (same_fault p x y (first_of ys) 0 x (ap (λ (t : Bool). kind_is Column y and t) m))

front_forgotten : (q p i : ℕ) (ds : List ℕ) → kind_is Column (first_of ds) and may_run q p ≡ false → kind_is Tilde p ≡ false → text_of q p i ds ≡ text_of 0 0 i ds
front_forgotten q p i [] e t = refl
front_forgotten q p i (y ∷ ys) e t =
    let f : wrong_of q p y (first_of ys) ≡ wrong_of 0 0 y (first_of ys) = same_fault q p y (first_of ys) 0 0 (e ∙ sym (and_false (kind_is Column y))) in
    ap (λ (w : ℕ). when (eqb w 0) (text_of p y (i + 1) ys) (Err (fault w i))) f
    ∙ ap (λ (r : Result Parameter Fault). when (eqb (wrong_of 0 0 y (first_of ys)) 0) r (Err (fault (wrong_of 0 0 y (first_of ys)) i))) (last_alone p y (i + 1) ys t)

run_closed : (q p i : ℕ) (ds : List ℕ) → may_run q p ≡ false → kind_is Tilde p ≡ false → text_of q p i ds ≡ text_of 0 0 i ds
run_closed q p i ds m t = front_forgotten q p i ds (ap (λ (u : Bool). kind_is Column (first_of ds) and u) m ∙ and_false (kind_is Column (first_of ds))) t

-- columns that may run on are passed, all of them
run_text : (q p i : ℕ) (ds : List ℕ) → may_run q p ≡ true → kind_is Tilde p ≡ false → text_of q p i (param_of ds) ≡ text_of 0 0 (i + run_length ds) (param_of (drop (run_length ds) ds))
run_text q p i [] m t = let e : i ≡ i + 0 = omega arith in ap (λ (n : ℕ). Ok (read_to n 0)) e
run_text q p i (y ∷ ys) m t = go (kind_is Column y) refl (λ n u. run_text p y (i + 1) ys n u)
  where
    go : (c : Bool) → kind_is Column y ≡ c
        → (may_run p y ≡ true → kind_is Tilde y ≡ false → text_of p y (i + 1) (param_of ys) ≡ text_of 0 0 (i + 1 + run_length ys) (param_of (drop (run_length ys) ys)))
        → text_of q p i (param_of (y ∷ ys)) ≡ text_of 0 0 (i + when c (suc (run_length ys)) 0) (param_of (drop (when c (suc (run_length ys)) 0) (y ∷ ys)))
    go true e rest =
        let first = first_of (param_of ys) in
        let right : wrong_of q p y first ≡ 0 = wrong_column q p y first e ∙ ap (λ (u : Bool). when u 0 24) m in
        let place : i + 1 + run_length ys ≡ i + suc (run_length ys) = omega arith in
        ap (text_of q p i) (param_cons y ys (not_caret Column y e (λ z. omega arith)))
        ∙ when_true (eqb (wrong_of q p y first) 0) (text_of p y (i + 1) (param_of ys)) (Err (fault (wrong_of q p y first) i)) (eq-eqb (wrong_of q p y first) 0 right)
        ∙ rest (ap (λ (u : Bool). u or (kind_is Tilde p and eqb y 0x47)) e) (kind_known Column Tilde y e)
        ∙ ap (λ (n : ℕ). text_of 0 0 n (param_of (drop (run_length ys) ys))) place
    go false e rest =
        let place : i ≡ i + 0 = omega arith in
        let first : kind_is Column (first_of (param_of (y ∷ ys))) and may_run q p ≡ false = ap (λ (x : ℕ). kind_is Column x and may_run q p) (param_first (y ∷ ys) 0) ∙ ap (λ (u : Bool). u and may_run q p) e in
        front_forgotten q p i (param_of (y ∷ ys)) first t ∙ ap (λ (n : ℕ). text_of 0 0 n (param_of (y ∷ ys))) place

-- the bytes of a piece, by the tests that the code makes
module _ (b : List ℕ) (i : ℕ) where
  pub piece_one : kind_is Tilde (get_or b i caret) ≡ false → piece_of b i ≡ 1
  piece_one t = when_false (kind_is Tilde (get_or b i caret)) _ _ t

  pub piece_pair : (g : Bool) → kind_is Tilde (get_or b i caret) ≡ true → eqb (get_or b (i + 1) caret) 0x47 ≡ g → piece_of b i ≡ 2 + when g (run_length (drop (i + 2) b)) 0
  piece_pair g t e = when_true (kind_is Tilde (get_or b i caret)) _ _ t ∙ ap (λ (u : Bool). 2 + when u (run_length (drop (i + 2) b)) 0) e

-- one piece more of a text, which begins with a byte that is no caret and nothing wrong
module _ (b : List ℕ) (i : ℕ) (h : get_or b i caret ≡ caret → ⊥) (w : wrong_of 0 0 (get_or b i caret) (get_or b (i + 1) caret) ≡ 0) where
  abbrev from : ℕ → Result Parameter Fault
  from n = text_of 0 0 n (param_of (drop n b))

  one_more : from i ≡ text_of 0 (get_or b i caret) (i + 1) (param_of (drop (i + 1) b))
  one_more = text_next b 0 0 i (get_or b i caret) 0 refl h (sym w) refl

  plain : kind_is Tilde (get_or b i caret) ≡ false → kind_is Plain (get_or b i caret) ≡ true
  plain t = go (kind_is Plain (get_or b i caret)) refl
    where
      go : (u : Bool) → kind_is Plain (get_or b i caret) ≡ u → u ≡ true
      go true e = refl
      go false e = let z : ◌≡◌ {A = ℕ} 24 0 = sym (wrong_other 0 0 (get_or b i caret) (get_or b (i + 1) caret) e t refl) ∙ w in absurd (omega arith)

  plain_piece : kind_is Tilde (get_or b i caret) ≡ false → from i ≡ from (i + 1)
  plain_piece t =
      let x = get_or b i caret in
      one_more ∙ run_closed 0 x (i + 1) (param_of (drop (i + 1) b)) (ap (λ (u : Bool). u or false) (kind_known Plain Column x (plain t))) t

  letter : kind_is Tilde (get_or b i caret) ≡ true → is_letter (get_or b (i + 1) caret) ≡ true
  letter t = go (is_letter (get_or b (i + 1) caret)) (sym (wrong_tilde 0 0 (get_or b i caret) (get_or b (i + 1) caret) t) ∙ w)
    where
      go : (u : Bool) → ◌≡◌ {A = ℕ} (when u 0 25) 0 → u ≡ true
      go true z = refl
      go false z = absurd (omega arith)

  pair : kind_is Tilde (get_or b i caret) ≡ true → from i ≡ text_of (get_or b i caret) (get_or b (i + 1) caret) (i + 2) (param_of (drop (i + 2) b))
  pair t =
      let x = get_or b i caret in
      let l = get_or b (i + 1) caret in
      let e = letter_plain l (letter t) in
      let place : i + 1 + 1 ≡ i + 2 = omega arith in
      one_more
      ∙ text_next b 0 x (i + 1) l 0 refl (not_caret Plain l e (λ z. omega arith)) (sym (wrong_plain 0 x l (get_or b (i + 1 + 1) caret) e)) refl
      ∙ ap (λ (n : ℕ). text_of x l n (param_of (drop n b))) place

  pair_piece : kind_is Tilde (get_or b i caret) ≡ true → from i ≡ from (i + (2 + when (eqb (get_or b (i + 1) caret) 0x47) (run_length (drop (i + 2) b)) 0))
  pair_piece t = pair t ∙ go (eqb (get_or b (i + 1) caret) 0x47) refl
    where
      go : (g : Bool) → eqb (get_or b (i + 1) caret) 0x47 ≡ g → text_of (get_or b i caret) (get_or b (i + 1) caret) (i + 2) (param_of (drop (i + 2) b)) ≡ from (i + (2 + when g (run_length (drop (i + 2) b)) 0))
      go true g =
          let x = get_or b i caret in
          let l = get_or b (i + 1) caret in
          let e = letter_plain l (letter t) in
          let n = run_length (drop (i + 2) b) in
          let m : may_run x l ≡ true = ap (λ (u : Bool). kind_is Column l or (u and eqb l 0x47)) t ∙ ap (λ (u : Bool). kind_is Column l or u) g ∙ or_true (kind_is Column l) in
          let place : i + 2 + n ≡ i + (2 + n) = omega arith in
          run_text x l (i + 2) (drop (i + 2) b) m (kind_known Plain Tilde l e)
          ∙ ap (λ (d : List ℕ). text_of 0 0 (i + 2 + n) (param_of d)) (drop-drop n (i + 2) b)
          ∙ ap from place
      go false g =
          let x = get_or b i caret in
          let l = get_or b (i + 1) caret in
          let e = letter_plain l (letter t) in
          let m : may_run x l ≡ false = ap (λ (u : Bool). kind_is Column l or (u and eqb l 0x47)) t ∙ ap (λ (u : Bool). kind_is Column l or u) g ∙ ap (λ (u : Bool). u or false) (kind_known Plain Column l e) in
          let place : i + 2 ≡ i + (2 + 0) = omega arith in
          run_closed x l (i + 2) (param_of (drop (i + 2) b)) m (kind_known Plain Tilde l e) ∙ ap from place

  pub text_piece : from i ≡ from (i + piece_of b i)
  text_piece = go (kind_is Tilde (get_or b i caret)) refl
    where
      go : (t : Bool) → kind_is Tilde (get_or b i caret) ≡ t → from i ≡ from (i + when t (2 + when (eqb (get_or b (i + 1) caret) 0x47) (run_length (drop (i + 2) b)) 0) 1)
      go true e = pair_piece e
      go false e = plain_piece e

-- the first byte that passes, or behind them all
place_or_end : (p : ℕ → Bool) (xs : List ℕ) → unwrap_or (position p xs) (length xs) ≡ position_or_len p xs
place_or_end p xs = go (ltb (position_or_len p xs) (length xs)) refl
  where
    go : (t : Bool) → ltb (position_or_len p xs) (length xs) ≡ t → unwrap_or (cond t (Some (position_or_len p xs)) None) (length xs) ≡ position_or_len p xs
    go true e = refl
    go false e = omega (arith, ltb-false (position_or_len p xs) (length xs) e, prefix_len-le-length (λ x. not (p x)) xs)

-- a run of columns ends at the first byte that is none
run_ends : (xs : List ℕ) → position_or_len (λ x. not (kind_is Column x)) xs ≡ run_length xs
run_ends [] = refl
run_ends (x ∷ xs) = go (kind_is Column x) (run_ends xs)
  where
    go : (t : Bool) → position_or_len (λ y. not (kind_is Column y)) xs ≡ run_length xs
        → cond (not (not t)) (1 + position_or_len (λ y. not (kind_is Column y)) xs) 0 ≡ when t (suc (run_length xs)) 0
    go true e = omega arith
    go false e = refl

pub run_first : (xs : List ℕ) → unwrap_or (position (λ x. not (kind_is Column x)) xs) (length xs) ≡ run_length xs
run_first xs = place_or_end (λ x. not (kind_is Column x)) xs ∙ run_ends xs
