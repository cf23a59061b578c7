-- Laws of a text measured byte by byte: what stays true of it, how wide it can be, and what counting to a cap leaves.
use Prim.Native.Nat.{ℕ, ◌+◌, ◌-◌, ◌*◌, ◌≤◌, ◌<◌, min}
use mathlib.Core.Path.{◌≡◌, refl, sym, ap, subst, ◌∙◌}
use mathlib.Core.Bool.{Bool, true, false}
use mathlib.Core.List.{List, [], ◌∷◌}
use native.Mathlib.Omega.{arith}
use lib.Dec.{eqb, leb}
use lib.ListN.{length, get_or, take, drop, length-take, length-drop}
use Rattle.basis.specs.Choice.{when}
use Rattle.basis.proofs.Lists.{drop_next}
use Rattle.params.specs.Bytes.{tilde}
use Rattle.measure.specs.Width.{font, font_of, switched_of, measured, with_byte, with_all, measured_of, widths_of, widest, counted_of}
use Rattle.measure.specs.Capped.{most, topped_of}
use Rattle.measure.specs.declared.fonts.Font.{Font}
use Rattle.measure.specs.declared.width.Measured.{Measured}
use Rattle.measure.specs.declared.width.Widths.{Widths}

-- widths that agree in both numbers are the same
pub both : (whole lit whole' lit' : ℕ) → whole ≡ whole' → lit ≡ lit'
    → ◌≡◌ {A = Widths} (record { whole = whole; lit = lit }) (record { whole = whole'; lit = lit' })
both whole lit whole' lit' a b = ap (λ (n : ℕ). record { whole = n; lit = lit }) a ∙ ap (λ (n : ℕ). record { whole = whole'; lit = n }) b

-- what holds of both holds of the chosen one
pick : {A : Type 0} (P : A → Type 0) (t : Bool) (a b : A) → P a → P b → P (when t a b)
pick P true a b h k = h
pick P false a b h k = k

-- a character has at most 9 columns, of which at most 3 and never more than three quarters are blank
pub record Sized (f : Font) : Type 0 where
  pub columns : f.columns ≤ 9
  pub blank : f.blank ≤ 3
  pub part : 4 * f.blank ≤ 3 * f.columns

-- and so has what is measured of a text
pub record Fair (m : Measured) : Type 0 where
  pub sized : Sized m.font
  pub edge : m.edge ≤ 3
  pub part : 4 * m.edge ≤ 3 * m.whole

sized : (columns blank : ℕ) → columns ≤ 9 → blank ≤ 3 → 4 * blank ≤ 3 * columns → Sized (font columns blank)
sized columns blank h k l = record { columns = h; blank = k; part = l }

font_sized : (x : ℕ) → Sized (font_of x)
font_sized x =
    pick Sized (eqb x 0x44) _ _ (sized 6 1 (omega arith) (omega arith) (omega arith))
    (pick Sized (eqb x 0x64) _ _ (sized 7 2 (omega arith) (omega arith) (omega arith))
    (pick Sized (eqb x 0x42) _ _ (sized 8 2 (omega arith) (omega arith) (omega arith))
    (pick Sized (eqb x 0x62) _ _ (sized 9 3 (omega arith) (omega arith) (omega arith))
    (pick Sized (eqb x 0x43) _ _ (sized 5 1 (omega arith) (omega arith) (omega arith)) (sized 6 2 (omega arith) (omega arith) (omega arith))))))

with_fair : (m : Measured) (x : ℕ) → Fair m → Fair (with_byte m x)
with_fair m x h =
    let z = h.sized in
    let q = h.part in
    pick Fair (eqb m.last tilde) _ _
    (record { sized = pick Sized (eqb x 0x47) _ _ z (font_sized x); edge = h.edge; part = q })
    (pick Fair (eqb x tilde) _ _ (record { sized = z; edge = h.edge; part = q })
    (pick Fair (leb 0x80 x) _ _ (record { sized = z; edge = omega arith; part = omega arith })
    (record { sized = z; edge = z.blank; part = omega (arith, z.part) })))

all_fair : (m : Measured) (s : List ℕ) → Fair m → Fair (with_all m s)
all_fair m [] h = h
all_fair m (x ∷ s) h = all_fair (with_byte m x) s (with_fair m x h)

-- a font with nothing measured
pub start_fair : (x : ℕ) → Fair (measured (font_of x) 0 0 0)
start_fair x = record { sized = font_sized x; edge = omega arith; part = omega arith }

pub text_fair : (s : List ℕ) → Fair (measured_of s)
text_fair s = all_fair (measured (font_of 0x44) 0 0 0) s (start_fair 0x44)

pub with_last : (m : Measured) (x : ℕ) → (with_byte m x).last ≡ x
with_last m x =
    pick (λ (n : Measured). n.last ≡ x) (eqb m.last tilde) _ _ refl
    (pick (λ (n : Measured). n.last ≡ x) (eqb x tilde) _ _ refl (pick (λ (n : Measured). n.last ≡ x) (leb 0x80 x) _ _ refl refl))

-- no byte takes more than 9 columns
with_most : (m : Measured) (x : ℕ) → Fair m → (with_byte m x).whole ≤ m.whole + 9
with_most m x h =
    let c = h.sized.columns in
    pick (λ (n : Measured). n.whole ≤ m.whole + 9) (eqb m.last tilde) _ _ (omega arith)
    (pick (λ (n : Measured). n.whole ≤ m.whole + 9) (eqb x tilde) _ _ (omega arith)
    (pick (λ (n : Measured). n.whole ≤ m.whole + 9) (leb 0x80 x) _ _ (omega arith) (omega arith)))

all_most : (m : Measured) (s : List ℕ) → Fair m → (with_all m s).whole ≤ m.whole + 9 * length s
all_most m [] h = omega arith
all_most m (x ∷ s) h =
    omega (arith, with_most m x h, all_most (with_byte m x) s (with_fair m x h))

pub whole_most : (s : List ℕ) → (widths_of s).whole ≤ 9 * length s
whole_most s = omega (arith, all_most (measured (font_of 0x44) 0 0 0) s (start_fair 0x44))

-- a text of at most 111 bytes does not come to the cap
pub counted_all : (s : List ℕ) → length s ≤ 111 → counted_of (widths_of s) ≡ widths_of s
counted_all s h =
    let w = whole_most s in
    both _ _ (widths_of s).whole (widths_of s).lit (omega arith) (omega arith)

-- the same of a text that stands in a body of at most 111 bytes
pub part_all : (b : List ℕ) (p n : ℕ) → length b ≤ 111 → counted_of (widths_of (take n (drop p b))) ≡ widths_of (take n (drop p b))
part_all b p n h = counted_all (take n (drop p b)) (omega (arith, length-take n (drop p b), length-drop p b))

-- one byte more, and no byte more
all_next : (m : Measured) (s : List ℕ) (i : ℕ) → i < length s → with_all m (drop i s) ≡ with_all (with_byte m (get_or s i 0)) (drop (i + 1) s)
all_next m s i h = ap (with_all m) (drop_next s i 0 h)

-- counted to a cap byte by byte is counted to it at the end
top_again : (f : Font) (last whole edge more : ℕ) → topped_of (measured f last (min whole most + more) edge) ≡ topped_of (measured f last (whole + more) edge)
top_again f last whole edge more =
    let a : min (min whole most + more) most ≡ min (whole + more) most = omega arith in
    ap (λ (n : ℕ). measured f last n edge) a

top_kept : (f : Font) (last whole edge : ℕ) → topped_of (measured f last (min whole most) edge) ≡ topped_of (measured f last whole edge)
top_kept f last whole edge =
    let a : min (min whole most) most ≡ min whole most = omega arith in
    ap (λ (n : ℕ). measured f last n edge) a

-- one byte more, by its three tests: a letter behind a tilde, a tilde, a graphic byte
abbrev pub with_by : (letter tilde graphic : Bool) → Measured → ℕ → Measured
with_by t u v m x =
    when t (measured (switched_of m.font x) x m.whole m.edge)
    (when u (measured m.font x m.whole m.edge)
    (when v (measured m.font x (m.whole + 1) 0) (measured m.font x (m.whole + m.font.columns) m.font.blank)))

top_with : (m : Measured) (x : ℕ) → topped_of (with_byte (topped_of m) x) ≡ topped_of (with_byte m x)
top_with m x = go (eqb m.last tilde) (eqb x tilde) (leb 0x80 x)
  where
    go : (t u v : Bool) → topped_of (with_by t u v (topped_of m) x) ≡ topped_of (with_by t u v m x)
    go true u v = top_kept (switched_of m.font x) x m.whole m.edge
    go false true v = top_kept m.font x m.whole m.edge
    go false false true = top_again m.font x m.whole 0 1
    go false false false = top_again m.font x m.whole m.font.blank m.font.columns

top_all : (m : Measured) (s : List ℕ) → topped_of (with_all (topped_of m) s) ≡ topped_of (with_all m s)
top_all m [] = top_kept m.font m.last m.whole m.edge
top_all m (x ∷ s) =
    sym (top_all (with_byte (topped_of m) x) s)
    ∙ ap (λ (n : Measured). topped_of (with_all n s)) (top_with m x)
    ∙ top_all (with_byte m x) s

top_fair : (m : Measured) → Fair m → Fair (topped_of m)
top_fair m h = let q = h.part in let e = h.edge in record { sized = h.sized; edge = h.edge; part = omega arith }

-- measuring on by one byte: what is measured stays fair and within the cap, and comes to the same at the end
pub goes_on_lem : (m n : Measured) (s : List ℕ) (i : ℕ) → Fair m → i < length s → n ≡ topped_of (with_byte m (get_or s i 0))
    → Fair n × (n.whole ≤ most) × (topped_of (with_all n (drop (i + 1) s)) ≡ topped_of (with_all m (drop i s)))
goes_on_lem m n s i h k e =
    let w = with_byte m (get_or s i 0) in
    let a : n.whole ≡ min w.whole most = ap (λ (x : Measured). x.whole) e in (
      subst Fair (sym e) (top_fair w (with_fair m (get_or s i 0) h)),
      omega arith,
      ap (λ (x : Measured). topped_of (with_all x (drop (i + 1) s))) e ∙ top_all w (drop (i + 1) s) ∙ ap topped_of (sym (all_next m s i k)),
    )

-- the widths counted from what was counted to the cap
same_lit : (m n e : ℕ) → min m most ≡ min n most → m ≤ most → e ≤ 3 → min (m - e) widest ≡ min (n - e) widest
same_lit m n e h k l = omega arith
