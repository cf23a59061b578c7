-- The units' sums (S14) and conversions (S19, S20): exact, and at the greatest 64-bit number where that is passed.
use Rattle.std.specs.Prelude.{ℕ, ◌+◌, ◌-◌, ◌*◌, ◌/◌, ◌^◌, min}

-- the greatest number that a unit holds
abbrev pub limit : ℕ
limit = 2 ^ 64 - 1

abbrev pub capped : ℕ → ℕ
capped n = min n limit

abbrev pub sum_of : ℕ → ℕ → ℕ
sum_of a b = capped (a + b)

-- some times over
abbrev pub times_of : ℕ → ℕ → ℕ
times_of a n = capped (a * n)

-- shifts of k scans each
abbrev pub scans_of : ℕ → ℕ → ℕ
scans_of shifts each = capped (shifts * each)

-- 200 x scans / (5 + pace), rounded up
abbrev pub rounded_up : ℕ → ℕ → ℕ
rounded_up scans pace = (200 * scans + (pace + 4)) / (pace + 5)

abbrev pub millis_of : ℕ → ℕ → ℕ
millis_of scans pace = capped (rounded_up scans pace)
