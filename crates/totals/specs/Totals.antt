-- Totals of steps, scans and milliseconds (S22), each in its unit (S14): one command's, a sum, and some times over.
use Rattle.std.specs.Prelude.{ℕ}
use Rattle.units.specs.Units.{sum_of, times_of as times_over}
use Rattle.perform.specs.declared.price.Performed.{Performed}
use Rattle.totals.specs.declared.Totals.{Totals}

abbrev pub totals_of : (steps scans millis : ℕ) → Totals
totals_of a b c = record { steps = record { 0 = a }; scans = record { 0 = b }; millis = record { 0 = c } }

abbrev pub none_of : Totals
none_of = totals_of 0 0 0

-- a command is one step, with its scans and milliseconds
abbrev pub cost_of : Performed → Totals
cost_of x = totals_of 1 x.scans.0 x.millis.0

abbrev pub plus_of : Totals → Totals → Totals
plus_of t u = totals_of (sum_of t.steps.0 u.steps.0) (sum_of t.scans.0 u.scans.0) (sum_of t.millis.0 u.millis.0)

abbrev pub times_of : ℕ → Totals → Totals
times_of n t = totals_of (times_over t.steps.0 n) (times_over t.scans.0 n) (times_over t.millis.0 n)
