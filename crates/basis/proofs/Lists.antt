-- Laws of lists by place: what a loop over a slice goes by.
use Prim.Native.Nat.{ℕ, zero, suc, ◌+◌, ◌<◌}
use mathlib.Core.Path.{◌≡◌, refl}
use mathlib.Core.List.{List, [], ◌∷◌}
use native.Mathlib.Omega.{arith}
use native.Mathlib.Numerals.{add-one}
use lib.ListN.{length, get_or, drop}
use lib.Seq.{drop-cons}

-- what is left from a place on is the element there and what is left behind it
pub drop_next : {A : Type 0} (s : List A) (i : ℕ) (d : A) → i < length s → drop i s ≡ get_or s i d ∷ drop (i + 1) s
drop_next s i d h = rw (add-one i, drop-cons s i d)

-- an element within a list does not depend on what is given behind its end
pub get_or_other : {A : Type 0} (s : List A) (i : ℕ) (d e : A) → i < length s → get_or s i d ≡ get_or s i e
get_or_other [] i d e h = absurd (omega arith)
get_or_other (x ∷ s) zero d e h = refl
get_or_other (x ∷ s) (suc i) d e h = get_or_other s i d e (omega arith)
