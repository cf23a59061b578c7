-- The MIDs that no sign may have: rule W8, and N19 (C-15), the guard. It judges the MID that the caller gives as the
-- sign's own, and comes before a call's other refusals; only 251 and 16 come before it.
use Rattle.std.specs.Prelude.{◌≡◌, ℕ, Bool, false, nat_eq, Result, Ok, Err}
use Rattle.basis.specs.Choice.{when, ◌or◌}
use Rattle.basis.specs.Rows.{Row, ◌if◌}
use Rattle.refusal.specs.declared.Refusal.{Refusal}
use Rattle.refusal.specs.declared.Refusal.TheVariants.{ForbiddenMid}

-- 0, 1, 7Eh and 7Fh
unfoldable pub is_forbidden : ℕ → Bool
is_forbidden mid = nat_eq mid 0 or nat_eq mid 1 or nat_eq mid 0x7E or nat_eq mid 0x7F

-- any other
abbrev pub Allowed : ℕ → Type 0
Allowed mid = is_forbidden mid ≡ false

-- 19 as a row, which stands before a call's other rows
abbrev pub mid_row : ℕ → Row
mid_row mid = 19 if is_forbidden mid

-- 19 for a forbidden MID, or the answer
abbrev pub mid_or : {A : Type 0} → (mid : ℕ) → (answer : Result A Refusal) → Result A Refusal
mid_or mid answer = when (is_forbidden mid) (Err ForbiddenMid) answer

-- the guard alone: 19, or yes
abbrev pub guard_of : ℕ → Result Unit Refusal
guard_of mid = mid_or mid (Ok tt)
