-- Laws of a line's end, byte by byte, and how great a digit is.
use Prim.Native.Nat.{ℕ, ◌+◌, ◌-◌, ◌≤◌, ◌<◌}
use mathlib.Core.Path.{◌≡◌, refl, ap, ◌∙◌}
use mathlib.Core.Bool.{Bool, true, false}
use mathlib.Core.List.{List, [], ◌∷◌}
use native.Mathlib.Omega.{arith}
use lib.Dec.{eqb, ltb, leb}
use lib.ListN.{length, get_or, take, drop, length-drop}
use lib.Seq.{take_all}
use borrow.Author.Tests.{leb-true, ltb-false, ne_eqb}
use Rattle.std.specs.Prelude.{Option, Some, None, cond, not, position}
use Rattle.std.specs.Option.{unwrap_or}
use Rattle.std.specs.List.{position_or_len}
use Rattle.std.proofs.lemmas.List.Sums.{prefix_len-le-length}
use Rattle.basis.specs.Choice.{when}
use Rattle.basis.proofs.Choices.{when_false}
use Rattle.basis.proofs.Lists.{drop_next}
use Rattle.input.specs.Digits.{digit_of}
use Rattle.input.specs.Lines.{line_end}

-- the first place that passes, or behind them all
pub place_or_end : (p : ℕ → Bool) (xs : List ℕ) → unwrap_or (position p xs) (length xs) ≡ position_or_len p xs
place_or_end p xs = go (ltb (position_or_len p xs) (length xs)) refl
  where
    go : (t : Bool) → ltb (position_or_len p xs) (length xs) ≡ t → unwrap_or (cond t (Some (position_or_len p xs)) None) (length xs) ≡ position_or_len p xs
    go true e = refl
    go false e = omega (arith, ltb-false (position_or_len p xs) (length xs) e, prefix_len-le-length (λ x. not (p x)) xs)

-- a line ends as many bytes on as stand before the first line end
pub line_ends : (at : ℕ) (xs : List ℕ) → at + position_or_len (λ x. eqb x 0x0A) xs ≡ line_end at xs
line_ends at [] = omega arith
line_ends at (x ∷ xs) = go (eqb x 0x0A) (line_ends (at + 1) xs)
  where
    go : (t : Bool) → at + 1 + position_or_len (λ y. eqb y 0x0A) xs ≡ line_end (at + 1) xs
        → at + cond (not t) (1 + position_or_len (λ y. eqb y 0x0A) xs) 0 ≡ when t at (line_end (at + 1) xs)
    go true e = omega arith
    go false e = omega arith

-- so what is left of a text shows where its line ends
pub ends_at : (s : List ℕ) (at more : ℕ) (first : Option ℕ) → at ≤ length s → first ≡ position (λ x. eqb x 0x0A) (take (length s - at) (drop at s))
    → more ≡ unwrap_or first (length (take (length s - at) (drop at s)))
    → (at + more ≡ line_end at (drop at s)) × ((at ≤ at + more) × (at + more - at ≤ length s - at))
ends_at s at more first within found e =
    let left : take (length s - at) (drop at s) ≡ drop at s = take_all (length s - at) (drop at s) (omega (arith, length-drop at s)) in
    let place : more ≡ position_or_len (λ x. eqb x 0x0A) (drop at s) =
    e ∙ ap (λ o. unwrap_or o (length (take (length s - at) (drop at s)))) found
    ∙ ap (λ xs. unwrap_or (position (λ x. eqb x 0x0A) xs) (length xs)) left
    ∙ place_or_end (λ x. eqb x 0x0A) (drop at s) in (
      ap (λ n. at + n) place ∙ line_ends at (drop at s),
      (omega arith, omega (arith, prefix_len-le-length (λ x. not (eqb x 0x0A)) (drop at s), length-drop at s)),
    )

-- a byte that is no line end moves the end of the line on
pub goes_on_lem : (s : List ℕ) (at : ℕ) → at < length s → (get_or s at 0 ≡ 0x0A → ⊥) → line_end at (drop at s) ≡ line_end (at + 1) (drop (at + 1) s)
goes_on_lem s at within e = ap (line_end at) (drop_next s at 0 within) ∙ when_false (eqb (get_or s at 0) 0x0A) _ _ (ne_eqb (get_or s at 0) 0x0A e)
