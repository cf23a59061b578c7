-- A step of a sound record is a step of its run.
use mathlib.Core.Bool.{Bool, true, false, not}
use mathlib.Core.Path.{◌≡◌, refl, sym, ap, ◌∙◌}
use lib.Dec.{eqb}
use lib.ListN.{replicate}
use Rattle.basis.specs.Choice.{when, ◌and◌}
use Rattle.basis.proofs.Choices.{when_true, when_false}
use Rattle.std.specs.Prelude.{Err}
use Rattle.refusal.specs.declared.Refusal.TheVariants.{Unsound}
use Rattle.machine.specs.Sound.{sound_of as run_sound}
use Rattle.machine.specs.Step.{step_of as run_step}
use Rattle.machine.proofs.Keeps.{step_unsound}
use Rattle.sign.specs.Sound.{framed_of, sound_of}
use Rattle.sign.specs.Step.{runs_of, stepped_of, step_of}
use Rattle.sign.specs.declared.Sign.{Sign}
use Rattle.sign.proofs.Sounds.{sound_framed}

pub sound_steps : (s : Sign) → sound_of s ≡ true → step_of s ≡ stepped_of s (run_step s.room s.run)
unfolding step_of
sound_steps s e = when_true (sound_of s) (stepped_of s (run_step s.room s.run)) (record { sign = s; answer = Err Unsound }) e

pub unsound_steps : (s : Sign) → sound_of s ≡ false → step_of s ≡ record { sign = s; answer = Err Unsound }
unfolding step_of
unsound_steps s e = when_false (sound_of s) (stepped_of s (run_step s.room s.run)) (record { sign = s; answer = Err Unsound }) e

-- a record stays with the run that it has
pub same_run : (s : Sign) → runs_of s s.run ≡ s
same_run s = go (eqb s.run.len 0)
  where
    go : (t : Bool) → ◌≡◌ {A = Sign} (record { completed = s.completed; slots = s.slots; room = when (not t and t) (replicate 84 0) s.room; run = s.run }) s
    go true = refl
    go false = refl

-- a record with a sound frame steps its run, whose own step refuses where that isn't sound
pub framed_steps : (s : Sign) → framed_of s ≡ true → step_of s ≡ stepped_of s (run_step s.room s.run)
framed_steps s e = go (run_sound s.room s.run) refl
  where
    sound : sound_of s ≡ run_sound s.room s.run
    sound = sound_framed s ∙ ap (λ (t : Bool). t and run_sound s.room s.run) e

    go : (t : Bool) → run_sound s.room s.run ≡ t → step_of s ≡ stepped_of s (run_step s.room s.run)
    go true w = sound_steps s (sound ∙ w)
    go false w =
        unsound_steps s (sound ∙ w)
        ∙ ap (λ (x : Sign). record { sign = x; answer = Err Unsound }) (sym (same_run s))
        ∙ sym (ap (stepped_of s) (step_unsound s.room s.run w))

pub unframed_steps : (s : Sign) → framed_of s ≡ false → step_of s ≡ record { sign = s; answer = Err Unsound }
unframed_steps s e = unsound_steps s (sound_framed s ∙ ap (λ (t : Bool). t and run_sound s.room s.run) e)
