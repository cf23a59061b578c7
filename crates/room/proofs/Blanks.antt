-- Zeros, byte by byte.
use Prim.Native.Nat.{ℕ, zero, suc, ◌-◌, ◌≤◌, ◌<◌}
use mathlib.Core.List.{List, [], ◌∷◌}
use mathlib.Core.Bool.{Bool, true, false}
use mathlib.Core.Path.{◌≡◌, refl, sym, ap, ◌∙◌}
use lib.Dec.{eqb}
use Rattle.std.specs.Prelude.{max}
use Rattle.std.specs.List.{fold}
use lib.ListN.{length, length-drop, take, drop}
use lib.Seq.{take_all}
use native.Mathlib.Omega.{arith}
use borrow.Author.Tests.{ne_eqb}
use Rattle.basis.specs.Choice.{◌and◌}
use Rattle.room.specs.Room.{zeros_of}

-- the greatest of all bytes is 0 only if all are
pub greatest_zero : (most : ℕ) (s : List ℕ) → eqb (fold (λ a x. max a x) most s) 0 ≡ eqb most 0 and zeros_of s
greatest_zero most [] = and_all (eqb most 0)
  where
    and_all : (t : Bool) → t ≡ t and true
    and_all true = refl
    and_all false = refl
greatest_zero most (x ∷ xs) = greatest_zero (max most x) xs ∙ regroup most x
  where
    regroup : (a b : ℕ) → eqb (max a b) 0 and zeros_of xs ≡ eqb a 0 and eqb b 0 and zeros_of xs
    regroup zero b = ap (λ (n : ℕ). eqb n 0 and zeros_of xs) (omega arith)
    regroup (suc a) b =
        let some : suc a ≡ 0 → ⊥ = λ z. omega arith in
        let more : max (suc a) b ≡ 0 → ⊥ = λ z. omega arith in
        ap (λ (t : Bool). t and zeros_of xs) (ne_eqb (max (suc a) b) 0 more)
        ∙ sym (ap (λ (t : Bool). t and eqb b 0 and zeros_of xs) (ne_eqb (suc a) 0 some))

-- what is behind the first bytes, as the code lends it
pub room_is : (b : List ℕ) (n : ℕ) → drop n b ≡ take (length b - n) (drop n b)
room_is b n = sym (take_all (length b - n) (drop n b) (omega (arith, length-drop n b)))

pub none_left : (b : List ℕ) (n : ℕ) → length b < n → true ≡ zeros_of (drop n b)
none_left b n h = go (drop n b) (omega (arith, length-drop n b))
  where
    go : (xs : List ℕ) → length xs ≤ 0 → true ≡ zeros_of xs
    go [] z = refl
    go (x ∷ xs) z = absurd (omega arith)
