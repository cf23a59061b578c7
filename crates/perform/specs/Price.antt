-- What a command answers when it is performed (S1 to S5, S17, S18), and its price in scans (S19) and milliseconds (S20,
-- S21).
use Rattle.std.specs.Prelude.{ℕ, ◌*◌, ◌%◌, List, eqb, take, drop}
use Rattle.basis.specs.Choice.{when}
use Rattle.units.specs.Units.{sum_of, scans_of as scans_each, millis_of as millis_at}
use Rattle.measure.specs.Width.{widths_of, counted_of, fits_of, column_of as centred}
use Rattle.measure.specs.declared.width.Widths.{Widths}
use Rattle.program.specs.declared.Command.{Command}
use Rattle.program.specs.declared.Kind.{Kind}
use Rattle.program.specs.declared.Kind.TheVariants.{II, IA, IB, S, L, E, F, R, XS, XF, P, Scans, W, XD, XB, Y}
use Rattle.perform.specs.declared.price.Doing.{Doing}
use Rattle.perform.specs.declared.price.Doing.TheVariants.{Shows, Streams, Waits, Rests}
use Rattle.perform.specs.declared.price.Performed.{Performed}
use Rattle.perform.specs.declared.settings.Settings.{Settings}

-- a text shown in so many scans, a text streamed, a wait, or nothing that takes time
abbrev pub doing_of : Kind → Doing
doing_of II = Shows 0
doing_of IA = Shows 7
doing_of IB = Shows 7
doing_of S = Streams
doing_of W = Waits
doing_of L = Rests
doing_of E = Rests
doing_of F = Rests
doing_of R = Rests
doing_of XS = Rests
doing_of XF = Rests
doing_of P = Rests
doing_of Scans = Rests
doing_of XD = Rests
doing_of XB = Rests
doing_of Y = Rests

-- a text of whole width 0 is streamed by doing nothing
abbrev pub streams_of : Widths → Doing
streams_of w = when (eqb w.whole 0) Rests Streams

-- what becomes of that with a text of these widths: one that is to be shown but doesn't fit acts as `S` (S18)
abbrev pub acts_of : Doing → Widths → Doing
acts_of (Shows n) w = when (fits_of w) (Shows n) (streams_of w)
acts_of Streams w = streams_of w
acts_of Waits w = Waits
acts_of Rests w = Rests

-- the shifts of a scroll, by the whole width
abbrev pub shifts_of : Widths → ℕ
shifts_of w = sum_of w.whole 96

abbrev pub scans_of : Doing → Widths → (each : ℕ) → ℕ
scans_of (Shows n) w each = n
scans_of Streams w each = scans_each (shifts_of w) each
scans_of Waits w each = 0
scans_of Rests w each = 0

abbrev pub millis_of : Doing → (number scans pace : ℕ) → ℕ
millis_of (Shows n) number scans pace = millis_at scans pace
millis_of Streams number scans pace = millis_at scans pace
millis_of Waits number scans pace = 100 * number
millis_of Rests number scans pace = 0

abbrev pub column_of : Doing → Widths → ℕ
column_of (Shows n) w = centred w
column_of Streams w = 0
column_of Waits w = 0
column_of Rests w = 0

abbrev pub shown_of : Doing → Kind → Kind
shown_of (Shows n) k = k
shown_of Streams k = S
shown_of Waits k = k
shown_of Rests k = k

-- a command of this kind, number, text place and length, and widths of its text, performed at these settings
unfoldable pub answer_of : Kind → (number text len : ℕ) → Widths → Settings → Performed
answer_of k number text len w σ =
    let d = acts_of (doing_of k) w in
    let n = scans_of d w σ.scans in
    record {
      kind = shown_of d k;
      number = number;
      text = text;
      len = len;
      column = column_of d w;
      scans = record { 0 = n };
      millis = record { 0 = millis_of d number n σ.pace };
    }

-- a command of a body, performed at these settings: its text is measured where it stands, and its number is taken as a byte, which
-- that of a command that was read is
abbrev pub answer_at : List ℕ → Command → Settings → Performed
answer_at b c σ = answer_of c.kind (c.number % 256) c.text c.len (counted_of (widths_of (take c.len (drop c.text b)))) σ
