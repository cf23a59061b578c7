-- The refusal of a text is its first byte at fault: every byte before it is right among its neighbours, and where none is at fault
-- the text is right.
use Prim.Native.Nat.{ℕ, zero, suc, ◌+◌, ◌<◌}
use mathlib.Core.Path.{◌≡◌, refl, sym, ap, ◌∙◌}
use mathlib.Core.Bool.{Bool, true, false}
use mathlib.Core.List.{List, [], ◌∷◌}
use native.Mathlib.Omega.{arith}
use native.Mathlib.Numerals.{add-one}
use borrow.Author.Tests.{eqb-true, eqb-false, eq-eqb}
use lib.Dec.{eqb}
use lib.ListN.{length, get_or}
use Rattle.basis.specs.Choice.{when, ◌and◌}
use Rattle.basis.proofs.Choices.{when_true}
use Rattle.params.specs.Bytes.{caret, first_of, read_to}
use Rattle.params.specs.Kinds.{Plain, Tilde, Column, kind_is}
use Rattle.params.specs.Text.{is_letter, may_run, wrong_of, text_of, wrong_at}
use Rattle.refusal.specs.Refusal.{fault, number_of as number, Named}
use Rattle.std.proofs.Common.{Ok, Err}
use Rattle.refusal.specs.declared.Fault.{Fault}
use Rattle.params.specs.declared.Parameter.{Parameter}

-- the same behind two bytes
abbrev behind : (q p : ℕ) → List ℕ → ℕ → ℕ
behind q p ds i = wrong_of (get_or (q ∷ p ∷ ds) i 0) (get_or (p ∷ ds) i 0) (get_or ds i 0) (get_or ds (suc i) caret)

first_is : (xs : List ℕ) → first_of xs ≡ get_or xs 0 caret
first_is [] = refl
first_is (x ∷ xs) = refl

-- the first byte at fault of bytes that stand behind q and p
pub record First (q p : ℕ) (ds : List ℕ) (i n : ℕ) : Type 0 where
  pub inside : i < length ds
  pub here : behind q p ds i ≡ n
  pub some : n ≡ 0 → ⊥
  pub before : (j : ℕ) → j < i → behind q p ds j ≡ 0

later : (q p x : ℕ) (xs : List ℕ) (i n : ℕ) → behind q p (x ∷ xs) 0 ≡ 0 → First p x xs i n → First q p (x ∷ xs) (suc i) n
later q p x xs i n e f = record { inside = let h = f.inside in omega arith; here = f.here; some = f.some; before = go }
  where
    go : (j : ℕ) → j < suc i → behind q p (x ∷ xs) j ≡ 0
    go zero h = e
    go (suc j) h = f.before j (omega arith)

-- what is wrong with a byte has a name
fault_named : (q p x n : ℕ) → (wrong_of q p x n ≡ 0 → ⊥) → Named (wrong_of q p x n)
fault_named q p x n h = go (kind_is Plain x) (kind_is Tilde x) (is_letter n) (kind_is Column x and may_run q p) h
  where
    go : (plain tilde letter run : Bool) → (◌≡◌ {A = ℕ} (when plain 0 (when tilde (when letter 0 25) (when run 0 24))) 0 → ⊥) → Named (when plain 0 (when tilde (when letter 0 25) (when run 0 24)))
    go true tilde letter run k = absurd (k refl)
    go false true true run k = absurd (k refl)
    go false true false run k = refl
    go false false letter true k = absurd (k refl)
    go false false letter false k = refl

first_from : (q p at : ℕ) (f : Fault) (ds : List ℕ) → text_of q p at ds ≡ Err f → (i : ℕ) × (f.place ≡ at + i) × First q p ds i (number f.refusal)
first_from q p at f [] e = let z : ◌≡◌ {A = ℕ} 0 1 = cc in absurd (omega arith)
first_from q p at f (x ∷ xs) e = go (eqb (wrong_of q p x (first_of xs)) 0) refl e (λ k. first_from p x (at + 1) f xs k)
  where
    is : behind q p (x ∷ xs) 0 ≡ wrong_of q p x (first_of xs)
    is = ap (wrong_of q p x) (sym (first_is xs))

    go : (t : Bool) → eqb (wrong_of q p x (first_of xs)) 0 ≡ t → when t (text_of p x (at + 1) xs) (Err (fault (wrong_of q p x (first_of xs)) at)) ≡ Err f → (text_of p x (at + 1) xs ≡ Err f → (i : ℕ) × (f.place ≡ at + 1 + i) × First p x xs i (number f.refusal)) → (i : ℕ) × (f.place ≡ at + i) × First q p (x ∷ xs) i (number f.refusal)
    go true t k rest =
        let h = rest k in
        let g = h.1 in
        (suc h.0, omega arith, later q p x xs h.0 (number f.refusal) (is ∙ eqb-true _ 0 t) h.2)
    go false t k rest =
        let some = eqb-false _ 0 t in
        let same : fault (wrong_of q p x (first_of xs)) at ≡ f = cc in
        let a : wrong_of q p x (first_of xs) ≡ number f.refusal = sym (fault_named q p x (first_of xs) some) ∙ ap (λ (g : Fault). number g.refusal) same in
        let b : at ≡ f.place = ap (λ (g : Fault). g.place) same in
        (0, omega arith, record { inside = omega arith; here = is ∙ a; some = λ z. some (a ∙ z); before = λ j h. absurd (omega arith) })

none_from : (q p at : ℕ) (r : Parameter) (ds : List ℕ) → text_of q p at ds ≡ Ok r → (i : ℕ) → i < length ds → behind q p ds i ≡ 0
none_from q p at r [] e i h = absurd (omega arith)
none_from q p at r (x ∷ xs) e i h = go (eqb (wrong_of q p x (first_of xs)) 0) refl e (λ k j l. none_from p x (at + 1) r xs k j l) i h
  where
    go : (t : Bool) → eqb (wrong_of q p x (first_of xs)) 0 ≡ t → when t (text_of p x (at + 1) xs) (Err (fault (wrong_of q p x (first_of xs)) at)) ≡ Ok r → (text_of p x (at + 1) xs ≡ Ok r → (j : ℕ) → j < length xs → behind p x xs j ≡ 0) → (i : ℕ) → i < suc (length xs) → behind q p (x ∷ xs) i ≡ 0
    go true t k rest zero l = ap (wrong_of q p x) (sym (first_is xs)) ∙ eqb-true _ 0 t
    go true t k rest (suc i) l = rest k i (omega arith)
    go false t k rest i l = let z : ◌≡◌ {A = ℕ} 0 1 = cc in absurd (omega arith)

-- a byte of a text at its place, as the definition counts it
at_place : (ds : List ℕ) (i : ℕ) → wrong_at ds i ≡ behind 0 0 ds i
at_place ds i = ap (λ (k : ℕ). wrong_of (get_or (0 ∷ 0 ∷ ds) i 0) (get_or (0 ∷ ds) i 0) (get_or ds i 0) (get_or ds k caret)) (add-one i)

-- a refused text: the place is that of the first byte at fault, and the number what is wrong with it
pub first_fault : (at : ℕ) (f : Fault) (ds : List ℕ) → text_of 0 0 at ds ≡ Err f → (i : ℕ) × (f.place ≡ at + i) × (i < length ds) × (wrong_at ds i ≡ number f.refusal) × ((j : ℕ) → j < i → wrong_at ds j ≡ 0)
first_fault at f ds e =
    let h = first_from 0 0 at f ds e in
    (h.0, h.1, h.2.inside, at_place ds h.0 ∙ h.2.here, λ j l. at_place ds j ∙ h.2.before j l)

-- a right text: no byte is at fault
pub no_fault : (at : ℕ) (r : Parameter) (ds : List ℕ) → text_of 0 0 at ds ≡ Ok r → (i : ℕ) → i < length ds → wrong_at ds i ≡ 0
no_fault at r ds e i h = at_place ds i ∙ none_from 0 0 at r ds e i h

-- where no byte is at fault the text is right, to its end
right_from : (q p at : ℕ) (ds : List ℕ) → ((i : ℕ) → i < length ds → behind q p ds i ≡ 0) → text_of q p at ds ≡ Ok (read_to (at + length ds) 0)
right_from q p at [] h = let e : at ≡ at + 0 = omega arith in ap (λ (n : ℕ). Ok (read_to n 0)) e
right_from q p at (x ∷ xs) h =
    let here : wrong_of q p x (first_of xs) ≡ 0 = ap (wrong_of q p x) (first_is xs) ∙ h 0 (omega arith) in
    let end : at + 1 + length xs ≡ at + suc (length xs) = omega arith in
    when_true (eqb (wrong_of q p x (first_of xs)) 0) (text_of p x (at + 1) xs) (Err (fault (wrong_of q p x (first_of xs)) at)) (eq-eqb (wrong_of q p x (first_of xs)) 0 here)
    ∙ right_from p x (at + 1) xs (λ i l. h (suc i) (omega arith))
    ∙ ap (λ (n : ℕ). Ok (read_to n 0)) end

pub right_text : (at : ℕ) (ds : List ℕ) → ((i : ℕ) → i < length ds → wrong_at ds i ≡ 0) → text_of 0 0 at ds ≡ Ok (read_to (at + length ds) 0)
right_text at ds h = right_from 0 0 at ds (λ i l. sym (at_place ds i) ∙ h i l)
