-- From C: an image stays, byte for byte, under bytes that are a query or a repeat or are refused, and under a step of a Ready sign.
use Prim.Native.Nat.{ℕ}
use mathlib.Core.Bool.{Bool, true, false}
use mathlib.Core.List.{List}
use mathlib.Core.Path.{◌≡◌, refl, ap, ◌∙◌}
use lib.Dec.{eqb}
use lib.ListN.{length}
use Rattle.basis.specs.Bytes.{Bytes}
use Rattle.basis.specs.Choice.{when}
use Rattle.machine.specs.declared.Stepped.{Stepped as RunStepped}
use Rattle.machine.proofs.Keeps.{step_ready}
use Rattle.sign.specs.Receive.{receive_of}
use Rattle.sign.specs.Sound.{sound_of}
use Rattle.sign.specs.Step.{stepped_of, step_of}
use Rattle.sign.specs.declared.Sign.{Sign}
use Rattle.sign.specs.declared.Stepped.{Stepped}
use Rattle.sign.proofs.Sounds.{sound_parts}
use Rattle.sign.proofs.Stepping.{sound_steps, unsound_steps, same_run}
use Rattle.service.specs.Driver.{moves_of}
use Rattle.service.proofs.Driver.{receive_still}
use Rattle.image.specs.Layout.{image_size, image_of, record_of}
use Rattle.image.proofs.Backs.{image_again}
use Rattle.cabi.specs.Calls.{kept_of, receive_no, receive_image, step_no, step_image}

module _ (image : List ℕ) (size : length image ≡ image_size) (bytes : Bytes image) where
  -- a record that stays leaves its image, whatever number the call gives
  same : (n : ℕ) (s : Sign) → s ≡ record_of image → kept_of n image (image_of s) ≡ image
  same n s e = go (eqb n 0)
    where
      again : image_of s ≡ image
      again = ap image_of e ∙ image_again image size bytes

      go : (t : Bool) → when t (image_of s) image ≡ image
      go true = again
      go false = refl

  pub receive_leaves : (mid : ℕ) (b answer : List ℕ) → moves_of (receive_of (record_of image) mid b).outcome ≡ false
      → receive_image image mid b answer ≡ image
  receive_leaves mid b answer h =
      same (receive_no image mid b answer) (receive_of (record_of image) mid b).sign (receive_still (record_of image) mid b h)

  pub ready_leaves : (answer : List ℕ) → (record_of image).run.len ≡ 0 → step_image image answer ≡ image
  ready_leaves answer ready = same (step_no image answer) (step_of s).sign (go (sound_of s) refl)
    where
      s : Sign
      s = record_of image

      go : (t : Bool) → sound_of s ≡ t → (step_of s).sign ≡ s
      go true e =
          ap (λ (x : Stepped). x.sign) (sound_steps s e)
          ∙ ap (λ (x : RunStepped). (stepped_of s x).sign) (step_ready s.room s.run (sound_parts s e).run ready)
          ∙ same_run s
      go false e = ap (λ (x : Stepped). x.sign) (unsound_steps s e)
