-- Power-on (J15) and reset (J14); the call that resets refuses an unsound record (N16).
use Rattle.std.specs.Prelude.{ℕ, Ok, Err}
use Rattle.basis.specs.Choice.{when}
use Rattle.refusal.specs.declared.Refusal.TheVariants.{Unsound}
use Rattle.perform.specs.declared.settings.Settings.{Settings}
use Rattle.completed.specs.Completed.{none_of as no_completed}
use Rattle.collect.specs.Slots.{none_of}
use Rattle.machine.specs.Step.{ready_of}
use Rattle.sign.specs.Join.{sign_of}
use Rattle.sign.specs.Sound.{sound_of}
use Rattle.sign.specs.declared.Sign.{Sign}
use Rattle.sign.specs.declared.Cleared.{Cleared}
use Rattle.hear.specs.declared.Outcome.TheVariants.{Reset}

-- pace 4, one scan, AUX floating
abbrev pub start_settings : ℕ → ℕ → Settings
start_settings dim bright = record { pace = 4; scans = 1; sink = 0; dim = dim; bright = bright }

-- nothing collected, no body, no completed ID
unfoldable pub fresh_of : ℕ → ℕ → Sign
fresh_of dim bright = sign_of no_completed none_of (ready_of (start_settings dim bright))

-- dim threshold and forced brightness stay
abbrev pub reset_of : Sign → Sign
reset_of s = fresh_of s.run.settings.dim s.run.settings.bright

abbrev pub power_on : Sign
power_on = fresh_of 16 0

-- the call: 16, or the reset
unfoldable pub cleared_of : Sign → Cleared
cleared_of s = when (sound_of s) (record { sign = reset_of s; outcome = Ok Reset }) (record { sign = s; outcome = Err Unsound })
