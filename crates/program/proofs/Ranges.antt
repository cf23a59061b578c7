-- What a good command's kind says of its parameter: the form, the range of its number, and where its text lies.
use Prim.Native.Nat.{ℕ, suc, ◌+◌, ◌*◌, ◌≤◌}
use mathlib.Core.Path.{◌≡◌, refl, sym, ap, subst, ◌∙◌}
use mathlib.Core.Bool.{Bool, true, false}
use mathlib.Core.List.{List, [], ◌∷◌, ◌++◌}
use native.Mathlib.Omega.{arith}
use borrow.Author.Tests.{eqb-true}
use lib.Dec.{eqb}
use lib.ListN.{length, drop}
use Rattle.basis.specs.Choice.{when, ◌and◌, within}
use Rattle.params.specs.Bytes.{caret, param_of, first_of, read_to}
use Rattle.params.specs.Text.{wrong_of, text_of}
use Rattle.params.specs.Number.{digits, value_of, number_of}
use Rattle.program.specs.Table.{number, table, row_at, known}
use Rattle.program.specs.Answers.{letters_of}
use Rattle.program.specs.Command.{parameter_of, read_of}
use Rattle.program.specs.declared.Kind.{Kind}
use Rattle.program.specs.declared.Kind.TheVariants.{II, IA, IB, S, L, E, F, R, XS, XF, P, Scans, W, XD, XB, Y}
use Rattle.program.specs.declared.Form.{Form}
use Rattle.program.specs.declared.Form.TheVariants.{Text, Bare, Number}
use Rattle.params.specs.declared.Parameter.{Parameter}
use Rattle.program.specs.declared.Command.{Command}
use Rattle.refusal.specs.declared.Fault.{Fault}
use Rattle.refusal.specs.Refusal.{fault}
use Rattle.std.proofs.Common.{Result, Ok, Err, Some}
use Rattle.basis.proofs.Choices.{and_parts, within_parts}
use Rattle.refusal.proofs.Names.{ok_one}
use Rattle.program.proofs.Rows.{row_holds}
use Rattle.program.proofs.Laws.{TextAt, made, ends_within}

-- the form that the table has for a kind
abbrev pub form_of : Kind → Form
form_of II = Text
form_of IA = Text
form_of IB = Text
form_of S = Text
form_of L = number 1 99 2
form_of E = Bare
form_of F = Bare
form_of R = Bare
form_of XS = Bare
form_of XF = Bare
form_of P = number 1 20 2
form_of Scans = number 1 6 1
form_of W = number 1 99 2
form_of XD = number 1 255 3
form_of XB = number 0 255 3
form_of Y = number 0 17 2

same : Form → Form → Bool
same Text Text = true
same Text Bare = false
same Text (Number b) = false
same Bare Text = false
same Bare Bare = true
same Bare (Number b) = false
same (Number a) Text = false
same (Number a) Bare = false
same (Number a) (Number b) = eqb a.least b.least and (eqb a.greatest b.greatest and eqb a.digits b.digits)

same_is : (f g : Form) → same f g ≡ true → f ≡ g
unfolding same
same_is Text Text e = refl
same_is Text Bare e = let z : ◌≡◌ {A = ℕ} 0 1 = cc in absurd (omega arith)
same_is Text (Number b) e = let z : ◌≡◌ {A = ℕ} 0 1 = cc in absurd (omega arith)
same_is Bare Text e = let z : ◌≡◌ {A = ℕ} 0 1 = cc in absurd (omega arith)
same_is Bare Bare e = refl
same_is Bare (Number b) e = let z : ◌≡◌ {A = ℕ} 0 1 = cc in absurd (omega arith)
same_is (Number a) Text e = let z : ◌≡◌ {A = ℕ} 0 1 = cc in absurd (omega arith)
same_is (Number a) Bare e = let z : ◌≡◌ {A = ℕ} 0 1 = cc in absurd (omega arith)
same_is (Number a) (Number b) e =
    let t = and_parts (eqb a.least b.least) _ e in
    let u = and_parts (eqb a.greatest b.greatest) _ t.1 in
    let x = eqb-true a.least b.least t.0 in
    let y = eqb-true a.greatest b.greatest u.0 in
    let z = eqb-true a.digits b.digits u.1 in
    ap (λ (k : ℕ). number k a.greatest a.digits) x ∙ ap (λ (k : ℕ). number b.least k a.digits) y ∙ ap (λ (k : ℕ). number b.least b.greatest k) z

forms : Kind → Form → ℕ → Bool
forms k f n = same f (form_of k)

-- a good command has its kind's form
pub form_is : (b : List ℕ) (p : ℕ) (c : Command) (e : read_of b p ≡ Ok c) → (made b p c e).form ≡ form_of c.kind
unfolding forms same
form_is b p c e =
    let m = made b p c e in
    same_is m.form (form_of c.kind) (row_holds forms refl (drop p b) c.kind m.form m.letters m.row)

-- what a form allows a number to be: none is 0
abbrev pub InRange : Form → ℕ → Type 0
InRange Text n = n ≡ 0
InRange Bare n = n ≡ 0
InRange (Number r) n = (r.least ≤ n) × (n ≤ r.greatest)

abbrev Ranged : Form → Result Parameter Fault → Type 0
Ranged f (Ok r) = InRange f r.number
Ranged f (Err e) = Unit {0}

text_ranged : (q p at : ℕ) (ds : List ℕ) → Ranged Text (text_of q p at ds)
text_ranged q p at [] = refl
text_ranged q p at (x ∷ xs) = go (eqb (wrong_of q p x (first_of xs)) 0) (text_ranged p x (at + 1) xs)
  where
    go : (t : Bool) → Ranged Text (text_of p x (at + 1) xs) → Ranged Text (when t (text_of p x (at + 1) xs) (Err (fault (wrong_of q p x (first_of xs)) at)))
    go true h = h
    go false h = tt

ranged : (f : Form) (place at : ℕ) (ds : List ℕ) → Ranged f (parameter_of f place at ds)
ranged Text place at ds = text_ranged 0 0 at ds
ranged Bare place at [] = refl
ranged Bare place at (x ∷ xs) = tt
ranged (Number n) place at ds = go (digits ds and (within 1 (length ds) n.digits and within n.least (value_of 0 ds) n.greatest)) refl
  where
    go : (t : Bool) → digits ds and (within 1 (length ds) n.digits and within n.least (value_of 0 ds) n.greatest) ≡ t → Ranged (Number n) (when t (Ok (read_to (at + length ds) (value_of 0 ds))) (Err (fault 23 place)))
    go true e =
        let r = (and_parts (digits ds) _ e).1 in
        within_parts n.least (value_of 0 ds) n.greatest (and_parts (within 1 (length ds) n.digits) _ r).1
    go false e = tt

-- a good command's number lies in its kind's range
pub number_in_range : (b : List ℕ) (p : ℕ) (c : Command) → read_of b p ≡ Ok c → InRange (form_of c.kind) c.number
number_in_range b p c e =
    let m = made b p c e in
    let ds = param_of (drop (p + m.letters) b) in
    let r = subst (Ranged m.form) m.right (ranged m.form p (p + m.letters) ds) in
    subst (λ (f : Form). InRange f c.number) (form_is b p c e) r

-- a good command's text lies within the body
pub text_within : (b : List ℕ) (p : ℕ) (c : Command) → read_of b p ≡ Ok c → c.text + c.len ≤ length b
text_within b p c e =
    let m = made b p c e in
    let w = ends_within b p c e in
    let n = m.next in
    by m.form m.text w (omega arith)
  where
    by : (f : Form) → TextAt f (p + (made b p c e).letters) c → c.next ≤ length b → p + (made b p c e).letters ≤ c.next → c.text + c.len ≤ length b
    by Text t w n = omega arith
    by Bare t w n = omega arith
    by (Number r) t w n = omega arith

-- what a right number shows of its digits
record Digits (lo hi most n : ℕ) (ds : List ℕ) : Type 0 where
  good : digits ds ≡ true
  least : 1 ≤ length ds
  most' : length ds ≤ most
  value : n ≡ value_of 0 ds
  high : n ≤ hi

digits_shown : (lo hi most place at n next : ℕ) (ds : List ℕ) → number_of lo hi most place at ds ≡ Ok (read_to next n) → Digits lo hi most n ds
digits_shown lo hi most place at n next ds h = go (digits ds and (within 1 (length ds) most and within lo (value_of 0 ds) hi)) refl h
  where
    go : (t : Bool) → digits ds and (within 1 (length ds) most and within lo (value_of 0 ds) hi) ≡ t → when t (Ok (read_to (at + length ds) (value_of 0 ds))) (Err (fault 23 place)) ≡ Ok (read_to next n) → Digits lo hi most n ds
    go true e k =
        let c = and_parts (digits ds) _ e in
        let r = and_parts (within 1 (length ds) most) _ c.1 in
        let l = within_parts 1 (length ds) most r.0 in
        let x : value_of 0 ds ≡ n = ap (λ (r : Parameter). r.number) (ok_one k) in
        let y = (within_parts lo (value_of 0 ds) hi r.1).1 in
        record {
          good = c.0;
          least = l.0;
          most' = l.1;
          value = sym x;
          high = omega arith;
        }
    go false e k = let z : ◌≡◌ {A = ℕ} 0 1 = cc in absurd (omega arith)

two_digits : (n : ℕ) (ds : List ℕ) → Digits 1 99 2 n ds → n + 81 ≤ 90 * length ds
two_digits n [] d = let l = d.least in absurd (omega arith)
two_digits n (x ∷ []) d =
    let v = d.value in
    let g : within 0x30 x 0x39 and true ≡ true = d.good in
    let h = (within_parts 0x30 x 0x39 (and_parts (within 0x30 x 0x39) _ g).0).1 in
    omega arith
two_digits n (x ∷ y ∷ []) d = let h = d.high in omega arith
two_digits n (x ∷ y ∷ z ∷ ds) d = let l = d.most' in absurd (omega arith)

-- an `L` of more than 9 turns has two digits, so its command is longer: what bounds the steps of a program
pub loop_digits : (b : List ℕ) (p : ℕ) (c : Command) (e : read_of b p ≡ Ok c) → c.kind ≡ L → c.number + 81 + 90 * (p + (made b p c e).letters) ≤ 90 * c.next
loop_digits b p c e k =
    let m = made b p c e in
    let ds = param_of (drop (p + m.letters) b) in
    let f : m.form ≡ number 1 99 2 = form_is b p c e ∙ ap form_of k in
    let r = subst (λ (x : Form). parameter_of x p (p + m.letters) ds ≡ Ok (read_to c.next c.number)) f m.right in
    let d = two_digits c.number ds (digits_shown 1 99 2 p (p + m.letters) c.number c.next ds r) in
    let n = m.next in
    omega arith

-- the letters of each kind, behind a caret, are read as that kind, with its form
pub letters_read : (k : Kind) (s : List ℕ) → row_at table (caret ∷ letters_of k ++ s) ≡ Some (known k (form_of k) (suc (length (letters_of k))))
letters_read II s = refl
letters_read IA s = refl
letters_read IB s = refl
letters_read S s = refl
letters_read L s = refl
letters_read E s = refl
letters_read F s = refl
letters_read R s = refl
letters_read XS s = refl
letters_read XF s = refl
letters_read P s = refl
letters_read Scans s = refl
letters_read W s = refl
letters_read XD s = refl
letters_read XB s = refl
letters_read Y s = refl
