-- Below 2^32 nothing is capped: sums and conversions are then the plain ones.
use Prim.Native.Nat.{ℕ, ◌^◌, ◌<◌}
use mathlib.Core.Path.{◌≡◌}
use native.Mathlib.Omega.{arith}
use Rattle.units.specs.Units.{capped}

pub uncapped : (n : ℕ) → n < 2 ^ 32 → capped n ≡ n
uncapped n h = omega arith
