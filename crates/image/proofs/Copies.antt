-- A copy that fills its room is what was copied.
use Prim.Native.Nat.{ℕ, ◌≤◌}
use mathlib.Core.List.{List, ◌++◌, append-nil}
use mathlib.Core.Path.{◌≡◌, ap, ◌∙◌}
use native.Mathlib.Omega.{arith}
use lib.ListN.{length, take, drop, drop_of_length-le}
use lib.Seq.{take_all}

pub filled : (s room y : List ℕ) → length s ≡ length room → y ≡ take (length s) s ++ drop (length s) room → y ≡ s
filled s room y e h =
    let whole : length s ≤ length s = omega arith in
    let none : length room ≤ length s = omega arith in
    h
    ∙ ap (λ (r : List ℕ). take (length s) s ++ r) (drop_of_length-le room none)
    ∙ append-nil (take (length s) s)
    ∙ take_all (length s) s whole
