-- Laws of one command, for whoever reads a body command by command: what a good command is made of, where it ends, that it is at
-- least 2 bytes and lies within the body, that no caret stands in it but at its front, and that only the bytes from its place
-- on decide it.
use Prim.Native.Nat.{ℕ, zero, suc, ◌+◌, ◌-◌, ◌≤◌, ◌<◌}
use mathlib.Core.Path.{◌≡◌, refl, sym, ap, subst, ◌∙◌}
use mathlib.Core.Bool.{Bool, true, false, not}
use mathlib.Core.List.{List, [], ◌∷◌}
use native.Mathlib.Omega.{arith}
use mathlib.Core.Logic.{dite}
use native.Mathlib.Decide.{dec_lt}
use borrow.Author.Tests.{eqb-true, eqb-false, not-true}
use lib.Dec.{eqb}
use lib.ListN.{length, get_or, drop, length-drop}
use lib.Seq.{get_or-drop, drop-drop}
use Rattle.basis.specs.Choice.{when, ◌and◌}
use Rattle.params.specs.Bytes.{caret, param_of, read_to}
use Rattle.program.specs.Table.{Line, line, table, begins, row_at, known}
use Rattle.program.specs.Command.{parameter_of, command_of, made_of, row_of, read_of}
use Rattle.program.specs.declared.Kind.{Kind}
use Rattle.program.specs.declared.Form.{Form}
use Rattle.program.specs.declared.Form.TheVariants.{Text, Bare, Number}
use Rattle.program.specs.declared.Row.{Row}
use Rattle.params.specs.declared.Parameter.{Parameter}
use Rattle.program.specs.declared.Command.{Command}
use Rattle.refusal.specs.declared.Fault.{Fault}
use Rattle.std.proofs.Common.{Result, Ok, Err, Option, Some, None}
use Rattle.basis.proofs.Choices.{and_parts}
use Rattle.refusal.proofs.Names.{some_one}
use Rattle.program.proofs.Rows.{row_plain, row_no_caret}
use Rattle.program.proofs.Parameters.{Ends, ends}

-- where a command's text stands, by its form: from behind the letters on, and no text at 0
abbrev pub TextAt : Form → ℕ → Command → Type 0
TextAt Text at c = (c.text ≡ at) × (c.len ≡ c.next - at)
TextAt Bare at c = (c.text ≡ 0) × (c.len ≡ 0)
TextAt (Number n) at c = (c.text ≡ 0) × (c.len ≡ 0)

-- what a good command is made of: its row, and its parameter up to the next caret or the end
pub record Made (b : List ℕ) (p : ℕ) (c : Command) : Type 0 where
  pub form : Form
  pub letters : ℕ
  pub row : row_at table (drop p b) ≡ Some (known c.kind form letters)
  pub right : parameter_of form p (p + letters) (param_of (drop (p + letters) b)) ≡ Ok (read_to c.next c.number)
  pub next : c.next ≡ p + letters + length (param_of (drop (p + letters) b))
  pub text : TextAt form (p + letters) c

command_made : (k : Kind) (f : Form) (at : ℕ) (r : Result Parameter Fault) (c : Command) → made_of k f at r ≡ Ok c → (k ≡ c.kind) × (r ≡ Ok (read_to c.next c.number)) × TextAt f at c
command_made k f at (Ok r) c e = let h : command_of k f at r ≡ c = cc in by f h
  where
    by : (f : Form) → command_of k f at r ≡ c → (k ≡ c.kind) × (◌≡◌ {A = Result Parameter Fault} (Ok r) (Ok (read_to c.next c.number))) × TextAt f at c
    by Text h =
        (ap (λ (d : Command). d.kind) h, ap (λ (d : Command). Ok (read_to d.next d.number)) h, (sym (ap (λ (d : Command). d.text) h), sym (ap (λ (d : Command). d.len) h) ∙ ap (λ (d : Command). d.next - at) h))
    by Bare h =
        (ap (λ (d : Command). d.kind) h, ap (λ (d : Command). Ok (read_to d.next d.number)) h, (sym (ap (λ (d : Command). d.text) h), sym (ap (λ (d : Command). d.len) h)))
    by (Number n) h =
        (ap (λ (d : Command). d.kind) h, ap (λ (d : Command). Ok (read_to d.next d.number)) h, (sym (ap (λ (d : Command). d.text) h), sym (ap (λ (d : Command). d.len) h)))
command_made k f at (Err x) c e = let z : ◌≡◌ {A = ℕ} 0 1 = cc in absurd (omega arith)

made_by : (b : List ℕ) (p : ℕ) (c : Command) (r : Option Row) → row_at table (drop p b) ≡ r → row_of b p r ≡ Ok c → Made b p c
made_by b p c None e h = let z : ◌≡◌ {A = ℕ} 0 1 = cc in absurd (omega arith)
made_by b p c (Some row) e h =
    let k = row.kind in
    let f = row.form in
    let n = row.letters in
    let ds = param_of (drop (p + n) b) in
    let m = command_made k f (p + n) (parameter_of f p (p + n) ds) c h in
    record {
      form = f;
      letters = n;
      row = e ∙ ap (λ (j : Kind). Some (known j f n)) m.0;
      right = m.1;
      next = subst (Ends (p + n + length ds)) m.1 (ends f p (p + n) ds);
      text = m.2;
    }

-- a good command is made of a row and its parameter
pub made : (b : List ℕ) (p : ℕ) (c : Command) → read_of b p ≡ Ok c → Made b p c
unfolding read_of
made b p c e = made_by b p c (row_at table (drop p b)) refl e

-- each command is at least 2 bytes
pub at_least_two : (b : List ℕ) (p : ℕ) (c : Command) → read_of b p ≡ Ok c → p + 2 ≤ c.next
at_least_two b p c e =
    let m = made b p c e in
    let l = (row_plain (drop p b) c.kind m.form m.letters m.row).least in
    let n = m.next in
    omega arith

param_within : (s : List ℕ) → length (param_of s) ≤ length s
param_within [] = omega arith
param_within (x ∷ s) = go (eqb x caret) (param_within s)
  where
    go : (t : Bool) → length (param_of s) ≤ length s → length (when t [] (x ∷ param_of s)) ≤ suc (length s)
    go true h = omega arith
    go false h = omega arith

begins_within : (ls s : List ℕ) → begins ls s ≡ true → length ls ≤ length s
begins_within [] s e = omega arith
begins_within (l ∷ ls) [] e = let z : ◌≡◌ {A = ℕ} 0 1 = cc in absurd (omega arith)
begins_within (l ∷ ls) (x ∷ s) e = let h = begins_within ls s (and_parts (eqb x l) _ e).1 in omega arith

row_within : (rows : List Line) (s : List ℕ) (k : Kind) (f : Form) (n : ℕ) → row_at rows s ≡ Some (known k f n) → n ≤ length s
row_within [] s k f n e = let z : ◌≡◌ {A = ℕ} 0 1 = cc in absurd (omega arith)
row_within (line ls j g ∷ rows) s k f n e = go (begins ls s) refl e (row_within rows s k f n)
  where
    go : (b : Bool) → begins ls s ≡ b → when b (Some (known j g (length ls))) (row_at rows s) ≡ Some (known k f n) → (row_at rows s ≡ Some (known k f n) → n ≤ length s) → n ≤ length s
    go true t e' h = let y : length ls ≡ n = ap (λ (r : Row). r.letters) (some_one e') in let l = begins_within ls s t in omega arith
    go false t e' h = h e'

-- a good command lies within the body
pub ends_within : (b : List ℕ) (p : ℕ) (c : Command) → read_of b p ≡ Ok c → c.next ≤ length b
ends_within b p c e =
    let m = made b p c e in
    let l = row_within table (drop p b) c.kind m.form m.letters m.row in
    let q = param_within (drop (p + m.letters) b) in
    let n = m.next in
    let i = length-drop p b in
    let j = length-drop (p + m.letters) b in
    let g = (row_plain (drop p b) c.kind m.form m.letters m.row).least in
    omega arith

bare_none : (place at n next : ℕ) (ds : List ℕ) → parameter_of Bare place at ds ≡ Ok (read_to next n) → length ds ≡ 0
bare_none place at n next [] e = refl
bare_none place at n next (x ∷ ds) e = let z : ◌≡◌ {A = ℕ} 0 1 = cc in absurd (omega arith)

-- a command without parameter ends behind its letters
pub bare_ends : (b : List ℕ) (p : ℕ) (c : Command) (m : Made b p c) → m.form ≡ Bare → c.next ≡ p + m.letters
bare_ends b p c m e =
    let ds = param_of (drop (p + m.letters) b) in
    let r = subst (λ (f : Form). parameter_of f p (p + m.letters) ds ≡ Ok (read_to c.next c.number)) e m.right in
    let z = bare_none p (p + m.letters) c.number c.next ds r in
    let n = m.next in
    omega arith

-- a command starts with a caret, within the body
pub starts_within : (b : List ℕ) (p : ℕ) (c : Command) → read_of b p ≡ Ok c → p < length b
starts_within b p c e = let t = at_least_two b p c e in let w = ends_within b p c e in omega arith

pub starts_with_caret : (b : List ℕ) (p : ℕ) (c : Command) → read_of b p ≡ Ok c → get_or b p 0 ≡ caret
starts_with_caret b p c e = go (eqb (get_or b p 0) caret) refl
  where
    go : (t : Bool) → eqb (get_or b p 0) caret ≡ t → get_or b p 0 ≡ caret
    go true t = eqb-true (get_or b p 0) caret t
    go false t =
        let u = row_no_caret b p (starts_within b p c e) (eqb-false (get_or b p 0) caret t) in
        let m = (made b p c e).row in
        let k : Some (known c.kind (made b p c e).form (made b p c e).letters) ≡ None = sym m ∙ u in
        let z : ◌≡◌ {A = ℕ} 0 1 = cc in
        absurd (omega arith)

-- within a parameter no caret stands
param_plain : (s : List ℕ) (i : ℕ) → i < length (param_of s) → get_or s i 0 ≡ caret → ⊥
param_plain [] i h e = omega arith
param_plain (x ∷ s) i h e = go (eqb x caret) refl i h e (param_plain s)
  where
    go : (t : Bool) → eqb x caret ≡ t → (i : ℕ) → i < length (when t [] (x ∷ param_of s)) → get_or (x ∷ s) i 0 ≡ caret → ((j : ℕ) → j < length (param_of s) → get_or s j 0 ≡ caret → ⊥) → ⊥
    go true t i h e rest = omega arith
    go false t zero h e rest = eqb-false x caret t e
    go false t (suc i) h e rest = rest i (omega arith) e

-- nor among a command's letters
begins_same : (ls s : List ℕ) → begins ls s ≡ true → (i : ℕ) → i < length ls → get_or s i 0 ≡ get_or ls i 0
begins_same [] s e i h = absurd (omega arith)
begins_same (l ∷ ls) [] e i h = let z : ◌≡◌ {A = ℕ} 0 1 = cc in absurd (omega arith)
begins_same (l ∷ ls) (x ∷ s) e zero h = eqb-true x l (and_parts (eqb x l) _ e).0
begins_same (l ∷ ls) (x ∷ s) e (suc i) h = begins_same ls s (and_parts (eqb x l) _ e).1 i (omega arith)

no_carets : List ℕ → Bool
no_carets [] = true
no_carets (x ∷ xs) = not (eqb x caret) and no_carets xs

no_caret_at : (xs : List ℕ) → no_carets xs ≡ true → (i : ℕ) → i < length xs → get_or xs i 0 ≡ caret → ⊥
unfolding no_carets
no_caret_at [] e i h k = omega arith
no_caret_at (x ∷ xs) e zero h k = eqb-false x caret (not-true (eqb x caret) (and_parts (not (eqb x caret)) _ e).0) k
no_caret_at (x ∷ xs) e (suc i) h k = no_caret_at xs (and_parts (not (eqb x caret)) _ e).1 i (omega arith) k

letters_plain : List Line → Bool
letters_plain [] = true
letters_plain (line [] k f ∷ rows) = false
letters_plain (line (l ∷ ls) k f ∷ rows) = no_carets ls and letters_plain rows

row_letters : (rows : List Line) → letters_plain rows ≡ true → (s : List ℕ) (k : Kind) (f : Form) (n : ℕ) → row_at rows s ≡ Some (known k f n) → (i : ℕ) → suc i < n → get_or s (suc i) 0 ≡ caret → ⊥
unfolding letters_plain
row_letters [] a s k f n e i h d = let z : ◌≡◌ {A = ℕ} 0 1 = cc in omega arith
row_letters (line [] j g ∷ rows) a s k f n e i h d = let z : ◌≡◌ {A = ℕ} 0 1 = cc in omega arith
row_letters (line (l ∷ ls) j g ∷ rows) a s k f n e i h d = go (begins (l ∷ ls) s) refl e (row_letters rows (and_parts (no_carets ls) _ a).1 s k f n)
  where
    go : (t : Bool) → begins (l ∷ ls) s ≡ t → when t (Some (known j g (suc (length ls)))) (row_at rows s) ≡ Some (known k f n) → (row_at rows s ≡ Some (known k f n) → (i : ℕ) → suc i < n → get_or s (suc i) 0 ≡ caret → ⊥) → ⊥
    go true t e' rest =
        let y : suc (length ls) ≡ n = ap (λ (r : Row). r.letters) (some_one e') in
        let o : suc i < suc (length ls) = omega arith in
        let same = begins_same (l ∷ ls) s t (suc i) o in
        no_caret_at ls (and_parts (no_carets ls) _ a).0 i (omega arith) (sym same ∙ d)
    go false t e' rest = rest e' i h d

-- in a command no caret stands but at its front
pub only_caret : (b : List ℕ) (p : ℕ) (c : Command) → read_of b p ≡ Ok c → (q : ℕ) → p < q → q < c.next → get_or b q 0 ≡ caret → ⊥
unfolding letters_plain no_carets
only_caret b p c e q after before d =
    let m = made b p c e in
    let n = m.letters in
    dite (dec_lt q (p + n))
    (λ (h : q < p + n).
    let i = q - suc p in
    let o : suc i < n = omega arith in
    let x : p + suc i ≡ q = omega arith in
    row_letters table refl (drop p b) c.kind m.form n m.row i o (get_or-drop p b (suc i) 0 ∙ ap (λ (k : ℕ). get_or b k 0) x ∙ d))
    (λ h.
    let i = q - (p + n) in
    let y = m.next in
    let o : i < length (param_of (drop (p + n) b)) = omega arith in
    let x : p + n + i ≡ q = omega arith in
    param_plain (drop (p + n) b) i o (get_or-drop (p + n) b i 0 ∙ ap (λ (k : ℕ). get_or b k 0) x ∙ d))

row_from : (b d : List ℕ) (p : ℕ) → drop p b ≡ drop p d → (r : Option Row) → row_of b p r ≡ row_of d p r
row_from b d p e None = refl
row_from b d p e (Some r) =
    let n = r.letters in
    ap (λ (s : List ℕ). made_of r.kind r.form (p + n) (parameter_of r.form p (p + n) (param_of s)))
    (sym (drop-drop n p b) ∙ ap (drop n) e ∙ drop-drop n p d)

-- only the bytes from a place on decide what is read there
pub from_here_on : (b d : List ℕ) (p : ℕ) → drop p b ≡ drop p d → read_of b p ≡ read_of d p
unfolding read_of
from_here_on b d p e = row_from b d p e (row_at table (drop p b)) ∙ ap (λ (s : List ℕ). row_of d p (row_at table s)) e
