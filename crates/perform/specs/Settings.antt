-- What a sign is set to, what a command changes of it (S13, L17, L18, L20 to L23), and which values are in range (R3).
use Rattle.std.specs.Prelude.{ℕ, Bool, eqb, ltb, leb}
use Rattle.basis.specs.Choice.{when, ◌and◌, ◌or◌, within}
use Rattle.program.specs.declared.Kind.{Kind}
use Rattle.program.specs.declared.Kind.TheVariants.{II, IA, IB, S, L, E, F, R, XS, XF, P, Scans, W, XD, XB, Y}
use Rattle.perform.specs.declared.settings.Settings.{Settings}

-- a value that a setting takes, or none: it stays
pub data Change (A : Type 0) : Type 0 where
  stays : Change A
  takes : A → Change A

abbrev pub changed : {A : Type 0} → Change A → A → A
changed stays x = x
changed (takes y) x = y

-- what a command changes
pub record Changes : Type 0 where
  pub pace : Change ℕ
  pub scans : Change ℕ
  pub sink : Change ℕ
  pub dim : Change ℕ
  pub bright : Change ℕ

abbrev pub none : Changes
none = record { pace = stays; scans = stays; sink = stays; dim = stays; bright = stays }

abbrev pub applied : Changes → Settings → Settings
applied c σ =
    record {
      pace = changed c.pace σ.pace;
      scans = changed c.scans σ.scans;
      sink = changed c.sink σ.sink;
      dim = changed c.dim σ.dim;
      bright = changed c.bright σ.bright;
    }

-- the AUX drive: 1 sinks, 0 floats
abbrev pub drives : ℕ → Changes
drives n = record { pace = stays; scans = stays; sink = takes n; dim = stays; bright = stays }

-- above 31 acts as 31, 0 and 1 end forcing
abbrev pub forced_of : ℕ → ℕ
forced_of n = when (ltb n 2) 0 (when (ltb 31 n) 31 n)

-- what a command of a kind and a number changes
abbrev pub changes_of : Kind → ℕ → Changes
changes_of P n = record { pace = takes n; scans = stays; sink = stays; dim = stays; bright = stays }
changes_of Scans n = record { pace = stays; scans = takes n; sink = stays; dim = stays; bright = stays }
changes_of XS n = drives 1
changes_of XF n = drives 0
changes_of XD n = record { pace = stays; scans = stays; sink = stays; dim = takes n; bright = stays }
changes_of XB n = record { pace = stays; scans = stays; sink = stays; dim = stays; bright = takes (forced_of n) }
changes_of II n = none
changes_of IA n = none
changes_of IB n = none
changes_of S n = none
changes_of L n = none
changes_of E n = none
changes_of F n = none
changes_of R n = none
changes_of W n = none
changes_of Y n = none

-- the settings behind a command
abbrev pub behind_of : Kind → ℕ → Settings → Settings
behind_of k n σ = applied (changes_of k n) σ

-- not forced, or 2 to 31
abbrev pub bright_of : ℕ → Bool
bright_of n = eqb n 0 or within 2 n 31

-- each setting in the range that its command takes, AUX drive 0 or 1, and brightness 0 or 2 to 31
unfoldable pub sound_of : Settings → Bool
sound_of σ =
    within 1 σ.pace 20
    and within 1 σ.scans 6
    and leb σ.sink 1
    and within 1 σ.dim 255
    and bright_of σ.bright
