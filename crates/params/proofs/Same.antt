-- Every text of bytes has the answer and the place that it had before C-19: one test of the kinds, computed at all 256 bytes, and what
-- follows from it for a byte among its neighbours and for a text.
use Prim.Native.Nat.{ℕ, zero, suc, ◌+◌, ◌<◌}
use mathlib.Core.Path.{◌≡◌, refl, sym, ap, ◌∙◌}
use mathlib.Core.Bool.{Bool, true, false}
use mathlib.Core.List.{List, [], ◌∷◌}
use native.Mathlib.Omega.{arith}
use borrow.Author.Tests.{eqb-true}
use lib.Dec.{eqb, leb}
use Rattle.basis.specs.Bytes.{Bytes}
use Rattle.basis.specs.Choice.{when, ◌and◌, ◌or◌}
use Rattle.basis.proofs.Choices.{and_parts}
use Rattle.params.specs.Bytes.{tilde, first_of}
use Rattle.params.specs.Kinds.{ByteKind, Control, Plain, Caret, Tilde, Column, kind_of, kind_digit, kind_is}
use Rattle.params.specs.Text.{is_letter, may_run, wrong_of, text_of}
use Rattle.params.specs.Before.{WasKind, was_plain, was_tilde, was_graphic, was_forbidden, was_kind_of, was_may_run, was_wrong_by, was_wrong_of, was_text_of}
use Rattle.params.specs.declared.Parameter.{Parameter}
use Rattle.refusal.specs.declared.Fault.{Fault}
use Rattle.refusal.specs.Refusal.{fault}
use Rattle.std.proofs.Common.{Result, Err}
use Rattle.params.proofs.Entries.{every, every_at}

-- the kind that a byte of each kind was of
abbrev was_of : ByteKind → WasKind
was_of Control = was_forbidden
was_of Plain = was_plain
was_of Caret = was_forbidden
was_of Tilde = was_tilde
was_of Column = was_graphic

-- kinds and Bools as numbers and back, so that a test can compare them
abbrev was_digit : WasKind → ℕ
was_digit was_plain = 0
was_digit was_tilde = 1
was_digit was_graphic = 2
was_digit was_forbidden = 3

abbrev was_at : ℕ → WasKind
was_at zero = was_plain
was_at (suc zero) = was_tilde
was_at (suc (suc zero)) = was_graphic
was_at (suc (suc (suc n))) = was_forbidden

was_back : (k : WasKind) → was_at (was_digit k) ≡ k
was_back was_plain = refl
was_back was_tilde = refl
was_back was_graphic = refl
was_back was_forbidden = refl

abbrev bit : Bool → ℕ
bit false = 0
bit true = 1

abbrev bit_at : ℕ → Bool
bit_at zero = false
bit_at (suc n) = true

bit_back : (t : Bool) → bit_at (bit t) ≡ t
bit_back false = refl
bit_back true = refl

kind_equal : (j k : WasKind) → eqb (was_digit j) (was_digit k) ≡ true → j ≡ k
kind_equal j k e = sym (was_back j) ∙ ap was_at (eqb-true (was_digit j) (was_digit k) e) ∙ was_back k

bit_equal : (s t : Bool) → eqb (bit s) (bit t) ≡ true → s ≡ t
bit_equal s t e = sym (bit_back s) ∙ ap bit_at (eqb-true (bit s) (bit t) e) ∙ bit_back t

-- that a byte is of the kind that it was of, and that the two tests of the bytes in front say what they said
abbrev kept : ℕ → Bool
kept x = eqb (was_digit (was_kind_of x)) (was_digit (was_of (kind_of x))) and (eqb (bit (leb 0x80 x)) (bit (kind_is Column x)) and eqb (bit (eqb x tilde)) (bit (kind_is Tilde x)))

all_kept : every kept 256 ≡ true
unfolding every
all_kept = refl

kept_kind : (x : ℕ) → x < 256 → (was_kind_of x ≡ was_of (kind_of x)) × (leb 0x80 x ≡ kind_is Column x) × (eqb x tilde ≡ kind_is Tilde x)
kept_kind x h =
    let k = and_parts (eqb (was_digit (was_kind_of x)) (was_digit (was_of (kind_of x)))) _ (every_at kept 256 all_kept x h) in
    let b = and_parts (eqb (bit (leb 0x80 x)) (bit (kind_is Column x))) _ k.1 in
    (kind_equal (was_kind_of x) (was_of (kind_of x)) k.0, bit_equal (leb 0x80 x) (kind_is Column x) b.0, bit_equal (eqb x tilde) (kind_is Tilde x) b.1)

-- a fault by its kind, in the words of both
by_kind : (k : ByteKind) (run letter : Bool) → was_wrong_by (was_of k) run letter ≡ when (eqb (kind_digit k) 0) 0 (when (eqb (kind_digit k) 3) (when letter 0 25) (when (eqb (kind_digit k) 4 and run) 0 24))
by_kind Control run letter = refl
by_kind Plain run letter = refl
by_kind Caret run letter = refl
by_kind Tilde run letter = refl
by_kind Column run letter = refl

kept_fault : (q p x n : ℕ) → q < 256 → p < 256 → x < 256 → was_wrong_of q p x n ≡ wrong_of q p x n
kept_fault q p x n hq hp hx =
    ap (λ (k : WasKind). was_wrong_by k (was_may_run q p) (is_letter n)) (kept_kind x hx).0
    ∙ ap (λ (t : Bool). was_wrong_by (was_of (kind_of x)) (t or (eqb q tilde and eqb p 0x47)) (is_letter n)) (kept_kind p hp).1
    ∙ ap (λ (t : Bool). was_wrong_by (was_of (kind_of x)) (kind_is Column p or (t and eqb p 0x47)) (is_letter n)) (kept_kind q hq).2
    ∙ by_kind (kind_of x) (may_run q p) (is_letter n)

kept_from : (q p at : ℕ) (ds : List ℕ) → q < 256 → p < 256 → Bytes ds → was_text_of q p at ds ≡ text_of q p at ds
kept_from q p at [] hq hp hs = refl
kept_from q p at (x ∷ xs) hq hp hs =
    let w = wrong_of q p x (first_of xs) in
    ap (λ (v : ℕ). when (eqb v 0) (was_text_of p x (at + 1) xs) (Err (fault v at))) (kept_fault q p x (first_of xs) hq hp hs.0)
    ∙ ap (λ (r : Result Parameter Fault). when (eqb w 0) r (Err (fault w at))) (kept_from p x (at + 1) xs hp hs.0 hs.1)

-- the answer to every text, and its place, are those of 1.0.1
pub same_text : (at : ℕ) (ds : List ℕ) → Bytes ds → was_text_of 0 0 at ds ≡ text_of 0 0 at ds
same_text at ds hs = kept_from 0 0 at ds (omega arith) (omega arith) hs
