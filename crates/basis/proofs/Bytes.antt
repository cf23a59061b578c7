-- Laws of byte lists: an element is a byte, and a list that ends in two known elements.
use Prim.Native.Nat.{ℕ, zero, suc, ◌+◌, ◌-◌, ◌≤◌, ◌<◌}
use mathlib.Core.Path.{◌≡◌, refl, sym, ap, ◌∙◌}
use mathlib.Core.List.{List, [], ◌∷◌, ◌++◌}
use native.Mathlib.Omega.{arith}
use lib.ListN.{length, take, drop, get_or, length-take, length-drop, take-append-drop, drop_of_length-le}
use lib.Seq.{drop-cons}
use Rattle.basis.specs.Bytes.{Bytes}

-- an element of a byte list is a byte, and so is the 0 behind its end
pub byte_at : (b : List ℕ) (i : ℕ) → Bytes b → get_or b i 0 < 256
byte_at [] i h = omega arith
byte_at (x ∷ xs) zero h = h.0
byte_at (x ∷ xs) (suc i) h = byte_at xs i h.1

-- a stretch that lies within a list has its length
pub cut_length : (b : List ℕ) (at n : ℕ) → at + n ≤ length b → length (take n (drop at b)) ≡ n
cut_length b at n h = simp (length-take, length-drop) (omega arith)

-- what is left of a stretch after its first elements
pub drop_take : (n k : ℕ) (s : List ℕ) → n ≤ k → drop n (take k s) ≡ take (k - n) (drop n s)
drop_take zero k s h = let e : k ≡ k - 0 = omega arith in ap (λ (m : ℕ). take m s) e
drop_take (suc n) zero s h = absurd (omega arith)
drop_take (suc n) (suc k) [] h = nil (suc k - suc n)
  where
    nil : (m : ℕ) → ◌≡◌ {A = List ℕ} [] (take m [])
    nil zero = refl
    nil (suc m) = refl
drop_take (suc n) (suc k) (x ∷ xs) h = let e : k - n ≡ suc k - suc n = omega arith in drop_take n k xs (omega arith) ∙ ap (λ (m : ℕ). take m (drop n xs)) e

-- all but the last two, and the last two
pub two_behind : (b : List ℕ) (k : ℕ) → length b ≡ k + 2 → b ≡ take k b ++ get_or b k 0 ∷ get_or b (suc k) 0 ∷ []
two_behind b k e =
    let one : k < length b = omega arith in
    let two : suc k < length b = omega arith in
    let end : length b ≤ suc (suc k) = omega arith in
    sym (take-append-drop k b)
    ∙ ap (λ (r : List ℕ). take k b ++ r)
    (drop-cons b k 0 one
    ∙ ap (λ (r : List ℕ). get_or b k 0 ∷ r)
    (drop-cons b (suc k) 0 two ∙ ap (λ (r : List ℕ). get_or b (suc k) 0 ∷ r) (drop_of_length-le b end)))

-- the first five, one by one
pub five_front : (b : List ℕ) → 5 ≤ length b → take 5 b ≡ get_or b 0 0 ∷ get_or b 1 0 ∷ get_or b 2 0 ∷ get_or b 3 0 ∷ get_or b 4 0 ∷ []
five_front [] h = absurd (omega arith)
five_front (x ∷ []) h = absurd (omega arith)
five_front (x ∷ y ∷ []) h = absurd (omega arith)
five_front (x ∷ y ∷ z ∷ []) h = absurd (omega arith)
five_front (x ∷ y ∷ z ∷ u ∷ []) h = absurd (omega arith)
five_front (x ∷ y ∷ z ∷ u ∷ v ∷ rest) h = refl
