-- The answers that C-13 left alone: where a text fits by both widths or by neither, only its start column may differ from version
-- 1.0; where both widths are one, or the command is no `II`, `IA` or `IB`, nothing does.
use Prim.Native.Nat.{ℕ, ◌+◌, ◌-◌, ◌*◌, ◌/◌, ◌≤◌, ◌<◌}
use mathlib.Core.Bool.{Bool, true, false}
use mathlib.Core.Path.{◌≡◌, refl, sym, ap, ◌∙◌}
use mathlib.Core.List.{List}
use native.Mathlib.Nat.{div-lt_iff_lt-mul}
use native.Mathlib.Omega.{arith}
use lib.Dec.{eqb, leb}
use borrow.Author.Tests.{le-leb, leb-false, ne_eqb}
use Rattle.basis.specs.Choice.{when}
use Rattle.units.specs.Units.{scans_of as scans_each, rounded_up, millis_of as millis_at}
use Rattle.measure.specs.Width.{widths_of, fits_of}
use Rattle.measure.specs.Before.{width_before}
use Rattle.measure.proofs.Edges.{fitted_fits}
use Rattle.measure.proofs.Same.{whole_before}
use Rattle.measure.specs.declared.width.Widths.{Widths}
use Rattle.program.specs.declared.Kind.{Kind}
use Rattle.program.specs.declared.Kind.TheVariants.{II, IA, IB, S, L, E, F, R, XS, XF, P, Scans, W, XD, XB, Y}
use Rattle.perform.specs.Price.{doing_of, streams_of, acts_of, shifts_of, scans_of, millis_of, column_of, shown_of, answer_of}
use Rattle.perform.specs.Before.{fits_before, scans_before, column_before, shown_before, answer_before, from_column}
use Rattle.perform.specs.declared.price.Doing.{Doing}
use Rattle.perform.specs.declared.price.Doing.TheVariants.{Shows, Streams, Waits, Rests}
use Rattle.perform.specs.declared.price.Performed.{Performed}
use Rattle.perform.specs.declared.settings.Settings.{Settings}

-- no scans take no time
nothing_lasts : (pace : ℕ) → millis_at 0 pace ≡ 0
nothing_lasts pace =
    let some : 0 < pace + 5 = omega arith in
    let below : rounded_up 0 pace < 1 = (div-lt_iff_lt-mul {k = pace + 5} {x = 200 * 0 + (pace + 4)} {y = 1} some).1 (omega arith) in
    omega arith

-- only `S` streams of itself
streams_s : (k : Kind) → doing_of k ≡ Streams → S ≡ k
streams_s S e = refl
streams_s II e = let z : ◌≡◌ {A = ℕ} 0 1 = cc in absurd (omega arith)
streams_s IA e = let z : ◌≡◌ {A = ℕ} 0 1 = cc in absurd (omega arith)
streams_s IB e = let z : ◌≡◌ {A = ℕ} 0 1 = cc in absurd (omega arith)
streams_s L e = let z : ◌≡◌ {A = ℕ} 0 1 = cc in absurd (omega arith)
streams_s E e = let z : ◌≡◌ {A = ℕ} 0 1 = cc in absurd (omega arith)
streams_s F e = let z : ◌≡◌ {A = ℕ} 0 1 = cc in absurd (omega arith)
streams_s R e = let z : ◌≡◌ {A = ℕ} 0 1 = cc in absurd (omega arith)
streams_s XS e = let z : ◌≡◌ {A = ℕ} 0 1 = cc in absurd (omega arith)
streams_s XF e = let z : ◌≡◌ {A = ℕ} 0 1 = cc in absurd (omega arith)
streams_s P e = let z : ◌≡◌ {A = ℕ} 0 1 = cc in absurd (omega arith)
streams_s Scans e = let z : ◌≡◌ {A = ℕ} 0 1 = cc in absurd (omega arith)
streams_s W e = let z : ◌≡◌ {A = ℕ} 0 1 = cc in absurd (omega arith)
streams_s XD e = let z : ◌≡◌ {A = ℕ} 0 1 = cc in absurd (omega arith)
streams_s XB e = let z : ◌≡◌ {A = ℕ} 0 1 = cc in absurd (omega arith)
streams_s Y e = let z : ◌≡◌ {A = ℕ} 0 1 = cc in absurd (omega arith)

module _ (k : Kind) (number text len : ℕ) (w : Widths) (σ : Settings) where
  -- an answer by what the command does and from which column
  abbrev now : Doing → ℕ → Performed
  now d column =
      record {
        kind = shown_of d k;
        number = number;
        text = text;
        len = len;
        column = column;
        scans = record { 0 = scans_of d w σ.scans };
        millis = record { 0 = millis_of d number (scans_of d w σ.scans) σ.pace };
      }

  abbrev once : Doing → ℕ → Performed
  once d column =
      record {
        kind = shown_before d k w.whole;
        number = number;
        text = text;
        len = len;
        column = column;
        scans = record { 0 = scans_before d w.whole σ.scans };
        millis = record { 0 = millis_of d number (scans_before d w.whole σ.scans) σ.pace };
      }

  -- a text streamed, by the test whether it shows nothing
  abbrev streamed : Kind → ℕ → Bool → Performed
  streamed x column t =
      record {
        kind = x;
        number = number;
        text = text;
        len = len;
        column = column;
        scans = record { 0 = scans_each (when t 0 (shifts_of w)) σ.scans };
        millis = record { 0 = millis_at (scans_each (when t 0 (shifts_of w)) σ.scans) σ.pace };
      }

  rests_alike : (column : ℕ) → now Rests column ≡ streamed k column true
  rests_alike column =
      let z : scans_each 0 σ.scans ≡ 0 = omega arith in
      let m : millis_at (scans_each 0 σ.scans) σ.pace ≡ 0 = ap (λ (n : ℕ). millis_at n σ.pace) z ∙ nothing_lasts σ.pace in
      ap (λ (n : ℕ). record { kind = k; number = number; text = text; len = len; column = column; scans = record { 0 = n }; millis = record { 0 = 0 } }) (sym z)
      ∙ ap (λ (n : ℕ). record { kind = k; number = number; text = text; len = len; column = column; scans = record { 0 = scans_each 0 σ.scans }; millis = record { 0 = n } }) (sym m)

  streams_alike : (column : ℕ) (t : Bool) → S ≡ k → now (when t Rests Streams) column ≡ streamed k column t
  streams_alike column true e = rests_alike column
  streams_alike column false e = ap (λ (x : Kind). streamed x column false) e

  -- a text that didn't fit has a width
  wide : fits_before w.whole ≡ false → eqb w.whole 0 ≡ false
  wide h = ne_eqb w.whole 0 (λ e. let l = leb-false w.whole 96 h in omega arith)

  shows_alike : (n column : ℕ) (t : Bool) → fits_before w.whole ≡ t
      → now (when t (Shows n) (streams_of w)) column
      ≡ record {
        kind = when t k S;
        number = number;
        text = text;
        len = len;
        column = column;
        scans = record { 0 = when t n (scans_each (when (eqb w.whole 0) 0 (shifts_of w)) σ.scans) };
        millis = record { 0 = millis_at (when t n (scans_each (when (eqb w.whole 0) 0 (shifts_of w)) σ.scans)) σ.pace };
      }
  shows_alike n column true h = refl
  shows_alike n column false h =
      ap (λ (u : Bool). now (when u Rests Streams) column) (wide h) ∙ sym (ap (streamed S column) (wide h))

  alike : (d : Doing) (column : ℕ) → doing_of k ≡ d → fits_of w ≡ fits_before w.whole → now (acts_of d w) column ≡ once d column
  alike (Shows n) column h e =
      ap (λ (t : Bool). now (when t (Shows n) (streams_of w)) column) e ∙ shows_alike n column (fits_before w.whole) refl
  alike Streams column h e = streams_alike column (eqb w.whole 0) (streams_s k h)
  alike Waits column h e = refl
  alike Rests column h e = refl

  pub same_but_column : fits_of w ≡ fits_before w.whole
      → answer_of k number text len w σ
      ≡ from_column (answer_of k number text len w σ).column (answer_before k number text len w.whole σ)
  unfolding answer_of
  same_but_column e = alike (doing_of k) (column_of (acts_of (doing_of k) w) w) refl e

  -- the lit width is the whole one
  column_none : (t : Bool) → column_of (when t Rests Streams) w ≡ 0
  column_none true = refl
  column_none false = refl

  column_by : (n : ℕ) (t : Bool) → column_of (when t (Shows n) (streams_of w)) w ≡ when t ((96 - w.lit) / 2) 0
  column_by n true = refl
  column_by n false = column_none (eqb w.whole 0)

  column_alike : (d : Doing) → w.lit ≡ w.whole → column_of (acts_of d w) w ≡ column_before d w.whole
  column_alike (Shows n) e = column_by n (fits_of w) ∙ ap (λ (x : ℕ). when (leb x 96) ((96 - x) / 2) 0) e
  column_alike Streams e = column_none (eqb w.whole 0)
  column_alike Waits e = refl
  column_alike Rests e = refl

  pub same_where_equal : w.lit ≡ w.whole → answer_of k number text len w σ ≡ answer_before k number text len w.whole σ
  unfolding answer_of
  same_where_equal e =
      alike (doing_of k) (column_of (acts_of (doing_of k) w) w) refl (ap fits_before e) ∙ ap (once (doing_of k)) (column_alike (doing_of k) e)

  -- `S`, and all that has no text
  pub same_unless_shown : ((n : ℕ) → doing_of k ≡ Shows n → ⊥) → answer_of k number text len w σ ≡ answer_before k number text len w.whole σ
  unfolding answer_of
  same_unless_shown h = go (doing_of k) refl
    where
      go : (d : Doing) → doing_of k ≡ d → now (acts_of d w) (column_of (acts_of d w) w) ≡ once d (column_before d w.whole)
      go (Shows n) e = absurd (h n e)
      go Streams e = ap (now (streams_of w)) (column_none (eqb w.whole 0)) ∙ streams_alike 0 (eqb w.whole 0) (streams_s k e)
      go Waits e = refl
      go Rests e = refl

-- so whatever text fitted in version 1.0 is shown at the same price, from a column of its own
pub same_if_fitted : (k : Kind) (number text len : ℕ) (s : List ℕ) (σ : Settings) → width_before s ≤ 96
    → answer_of k number text len (widths_of s) σ
    ≡ from_column (answer_of k number text len (widths_of s) σ).column (answer_before k number text len (width_before s) σ)
same_if_fitted k number text len s σ h =
    let e = whole_before s in
    let fitted : (widths_of s).whole ≤ 96 = omega arith in
    same_but_column k number text len (widths_of s) σ (fitted_fits s fitted ∙ sym (le-leb (widths_of s).whole 96 fitted))
    ∙ ap (λ (n : ℕ). from_column (answer_of k number text len (widths_of s) σ).column (answer_before k number text len n σ)) e
