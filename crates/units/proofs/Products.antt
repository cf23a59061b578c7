-- The milliseconds of scans taken by whole rounds and a rest.
use Prim.Native.Nat.{ℕ, ◌+◌, ◌-◌, ◌*◌, ◌/◌, ◌%◌, ◌<◌}
use mathlib.Core.Path.{◌≡◌, ap, ◌∙◌}
use native.Mathlib.Omega.{arith}
use native.Mathlib.Nat.{div-add-mod, mul-add-div}
use Rattle.units.specs.Units.{capped, sum_of, rounded_up, millis_of}

-- whole rounds of `pace + 5` scans take 200 each, and the rest is rounded up
pub by_rounds : (n pace : ℕ) → rounded_up n pace ≡ 200 * (n / (pace + 5)) + (200 * (n % (pace + 5)) + (pace + 4)) / (pace + 5)
by_rounds n pace =
    let by = pace + 5 in
    let q = n / by in
    let r = n % by in
    let some : 0 < by = omega arith in
    let split : 200 * n + (pace + 4) ≡ by * (200 * q) + (200 * r + (pace + 4)) = omega (arith, div-add-mod n by) in
    ap (λ (m : ℕ). m / by) split ∙ mul-add-div some (200 * q) (200 * r + (pace + 4))

-- so the capped sum of the two is the capped whole
pub rounds_summed : (n pace p r : ℕ) → p ≡ capped (n / (pace + 5) * 200)
    → r ≡ sum_of p ((200 * (n % (pace + 5)) + (pace + 5 - 1)) / (pace + 5))
    → r ≡ millis_of n pace
rounds_summed n pace p r ep er =
    let less : pace + 5 - 1 ≡ pace + 4 = omega arith in
    let last : (200 * (n % (pace + 5)) + (pace + 5 - 1)) / (pace + 5) ≡ (200 * (n % (pace + 5)) + (pace + 4)) / (pace + 5) =
    ap (λ (k : ℕ). (200 * (n % (pace + 5)) + k) / (pace + 5)) less in
    omega (arith, by_rounds n pace)
