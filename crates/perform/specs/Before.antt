-- What a command answered in version 1.0, when one width decided all. It is kept as it was; proofs/Same says which answers C-13 left
-- alone.
use Rattle.std.specs.Prelude.{ℕ, ◌-◌, ◌/◌, Bool, eqb, leb}
use Rattle.basis.specs.Choice.{when}
use Rattle.units.specs.Units.{sum_of, scans_of as scans_each}
use Rattle.program.specs.declared.Kind.{Kind}
use Rattle.program.specs.declared.Kind.TheVariants.{S}
use Rattle.perform.specs.Price.{doing_of, millis_of}
use Rattle.perform.specs.declared.price.Doing.{Doing}
use Rattle.perform.specs.declared.price.Doing.TheVariants.{Shows, Streams, Waits, Rests}
use Rattle.perform.specs.declared.price.Performed.{Performed}
use Rattle.perform.specs.declared.settings.Settings.{Settings}

abbrev pub fits_before : ℕ → Bool
fits_before width = leb width 96

abbrev pub shifts_before : ℕ → ℕ
shifts_before width = when (eqb width 0) 0 (sum_of width 96)

abbrev pub scans_before : Doing → (width each : ℕ) → ℕ
scans_before (Shows n) width each = when (fits_before width) n (scans_each (shifts_before width) each)
scans_before Streams width each = scans_each (shifts_before width) each
scans_before Waits width each = 0
scans_before Rests width each = 0

abbrev pub column_before : Doing → ℕ → ℕ
column_before (Shows n) width = when (fits_before width) ((96 - width) / 2) 0
column_before Streams width = 0
column_before Waits width = 0
column_before Rests width = 0

abbrev pub shown_before : Doing → Kind → ℕ → Kind
shown_before (Shows n) k width = when (fits_before width) k S
shown_before Streams k width = k
shown_before Waits k width = k
shown_before Rests k width = k

abbrev pub answer_before : Kind → (number text len width : ℕ) → Settings → Performed
answer_before k number text len width σ =
    let d = doing_of k in
    let n = scans_before d width σ.scans in
    record {
      kind = shown_before d k width;
      number = number;
      text = text;
      len = len;
      column = column_before d width;
      scans = record { 0 = n };
      millis = record { 0 = millis_of d number n σ.pace };
    }

-- the same answer but for the start column
abbrev pub from_column : ℕ → Performed → Performed
from_column column x =
    record {
      kind = x.kind;
      number = x.number;
      text = x.text;
      len = x.len;
      column = column;
      scans = x.scans;
      millis = x.millis;
    }
