-- Laws of what is laid at a buffer's front: one more byte, a list behind, over what was laid before, and taken off again.
use Prim.Native.Nat.{ℕ, ◌+◌, ◌-◌, ◌≤◌, ◌<◌}
use mathlib.Core.Path.{◌≡◌, sym, ap, ◌∙◌}
use mathlib.Core.List.{List, [], ◌∷◌, ◌++◌, append_assoc, append-nil}
use native.Mathlib.Omega.{arith}
use native.Mathlib.Nat.{add-sub_of_le, zero-add}
use lib.ListN.{length, take, drop, set, length-append, length-drop, drop_of_length-le}
use lib.Seq.{take-append_seam, drop-append_seam, drop-append-add, drop-drop, sets, sets-eq, length-take-le, take_all}
use Rattle.basis.specs.Bytes.{laid}

-- what was laid is what is read off the front again
pub take_laid : (p o : List ℕ) → take (length p) (laid p o) ≡ p
unfolding laid
take_laid p o = take-append_seam p (drop (length p) o)

-- and behind it stands what stood there
pub drop_laid : (p o : List ℕ) → drop (length p) (laid p o) ≡ drop (length p) o
unfolding laid
drop_laid p o = drop-append_seam p (drop (length p) o)

pub length_laid : (p o : List ℕ) → length p ≤ length o → length (laid p o) ≡ length o
unfolding laid
length_laid p o h = simp (length-append, length-drop) (omega arith)

-- what is laid over a shorter layer hides it
pub laid_over : (p q o : List ℕ) → length q ≤ length p → laid p (laid q o) ≡ laid p o
unfolding laid
laid_over p q o h =
    let k = length p - length q in
    let e : length q + k ≡ length p = add-sub_of_le h in
    ap (λ (r : List ℕ). p ++ r)
    (ap (λ (n : ℕ). drop n (q ++ drop (length q) o)) (sym e)
    ∙ drop-append-add q (drop (length q) o) k
    ∙ drop-drop k (length q) o
    ∙ ap (λ (n : ℕ). drop n o) e)

-- a part lent from behind what was laid comes back with q laid at its front
pub laid_behind : (p q o : List ℕ) → take (length p) (laid p o) ++ laid q (drop (length p) (laid p o)) ≡ laid (p ++ q) o
unfolding laid
laid_behind p q o =
    ap (λ (r : List ℕ). r ++ laid q (drop (length p) (laid p o))) (take_laid p o)
    ∙ ap (λ (r : List ℕ). p ++ (q ++ drop (length q) r)) (drop_laid p o)
    ∙ ap (λ (r : List ℕ). p ++ (q ++ r)) (drop-drop (length q) (length p) o)
    ∙ sym (append_assoc p q (drop (length p + length q) o))
    ∙ ap (λ (n : ℕ). p ++ q ++ drop n o) (sym (length-append p q))

-- a run of stores at a place lays them behind what stands before it
pub laid_at : (at : ℕ) (v o : List ℕ) → at + length v ≤ length o → sets o at v ≡ laid (take at o ++ v) o
unfolding laid
laid_at at v o h =
    let short : at ≤ length o = omega arith in
    let e : length (take at o ++ v) ≡ at + length v = length-append (take at o) v ∙ ap (λ (n : ℕ). n + length v) (length-take-le at o short) in
    sets-eq v o at h ∙ ap (λ (n : ℕ). take at o ++ v ++ drop n o) (sym e)

-- the part of a buffer behind what was laid, lent on and handed back with q at its front
pub laid_lent : (at : ℕ) (p q o f y : List ℕ) → at ≡ length p → length p ≤ length o → f ≡ laid p o
    → y ≡ laid q (take (length f - at) (drop at f))
    → take at f ++ (y ++ drop (length f - at) (drop at f)) ≡ laid (p ++ q) o
laid_lent at p q o f y e fits ef ey =
    let k = length f - at in
    let lf : length f ≡ length o = ap length ef ∙ length_laid p o fits in
    let rest : length (drop at f) ≤ k = omega (arith, length-drop at f) in
    let none : drop k (drop at f) ≡ [] = drop_of_length-le (drop at f) rest in
    let whole : take k (drop at f) ≡ drop at f = take_all k (drop at f) rest in
    ap (λ (r : List ℕ). take at f ++ (y ++ r)) none
    ∙ ap (λ (r : List ℕ). take at f ++ r) (append-nil y ∙ ey ∙ ap (laid q) whole)
    ∙ ap (λ (n : ℕ). take n f ++ laid q (drop n f)) e
    ∙ ap (λ (r : List ℕ). take (length p) r ++ laid q (drop (length p) r)) ef
    ∙ laid_behind p q o

-- a byte stored right behind what was laid is laid too
pub laid_push : (p o : List ℕ) (v : ℕ) → length p < length o → set (laid p o) (length p) v ≡ laid (p ++ v ∷ []) o
laid_push p o v h =
    let fits : length p + 1 ≤ length (laid p o) = omega (arith, length_laid p o (omega arith)) in
    laid_at (length p) (v ∷ []) (laid p o) fits
    ∙ ap (λ (q : List ℕ). laid (q ++ v ∷ []) (laid p o)) (take_laid p o)
    ∙ laid_over (p ++ v ∷ []) p o (omega (arith, length-append p (v ∷ [])))

-- a part of a buffer that was lent and came back as `q`, with what stands before it, is laid
pub laid_copied : (at to : ℕ) (q o y : List ℕ) → to ≡ at + length q → to ≤ length o → y ≡ q
    → take at o ++ (y ++ drop (to - at) (drop at o)) ≡ laid (take at o ++ q) o
unfolding laid
laid_copied at to q o y e fits ey =
    let short : at ≤ length o = omega arith in
    let n : at + (to - at) ≡ length (take at o ++ q) = omega (arith, length-append (take at o) q, length-take-le at o short) in
    ap (λ (r : List ℕ). take at o ++ (r ++ drop (to - at) (drop at o))) ey
    ∙ ap (λ (r : List ℕ). take at o ++ (q ++ r)) (drop-drop (to - at) at o ∙ ap (λ (m : ℕ). drop m o) n)
    ∙ sym (append_assoc (take at o) q (drop (length (take at o ++ q)) o))
