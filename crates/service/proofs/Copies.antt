-- A packet of a completed ID is a Repeat, and to a Busy sign one of any other is 12.
use Prim.Native.Nat.{ℕ}
use mathlib.Core.Bool.{true, false, not}
use mathlib.Core.List.{List}
use mathlib.Core.Path.{◌≡◌, ap, ◌∙◌}
use lib.Dec.{eqb}
use lib.ListN.{take, drop}
use borrow.Author.Tests.{ne_eqb}
use Rattle.basis.proofs.Choices.{when_true, when_false}
use Rattle.std.specs.Prelude.{Ok, Err}
use Rattle.refusal.specs.declared.Refusal.TheVariants.{Busy}
use Rattle.completed.specs.Completed.{has_of}
use Rattle.reader.specs.Read.{read_of}
use Rattle.reader.specs.declared.read.Packet.TheVariants.{Normal}
use Rattle.hear.specs.declared.Outcome.TheVariants.{Repeat}
use Rattle.sign.specs.Join.{stays_of, join_of}
use Rattle.sign.specs.Receive.{heard_of, receive_of}
use Rattle.sign.specs.declared.Sign.{Sign}
use Rattle.sign.proofs.Joining.{sound_receives}
use Rattle.service.specs.Good.{Good}

module _ (s : Sign) (good : Good s) (mid : ℕ) (b : List ℕ) (id total position len : ℕ) (read : read_of mid b ≡ Ok (Normal id total position len)) where
  heard : receive_of s mid b ≡ join_of s id total position (take len (drop 5 b))
  heard = sound_receives s mid b good.sound ∙ ap (heard_of s b) read

  pub copy_repeats : has_of s.completed id ≡ true → receive_of s mid b ≡ stays_of s (Ok Repeat)
  unfolding join_of
  copy_repeats same = heard ∙ when_true (has_of s.completed id) (stays_of s (Ok Repeat)) _ same

  pub busy_waits : (s.run.len ≡ 0 → ⊥) → has_of s.completed id ≡ false → receive_of s mid b ≡ stays_of s (Err Busy)
  unfolding join_of
  busy_waits busy other =
      heard
      ∙ when_false (has_of s.completed id) (stays_of s (Ok Repeat)) _ other
      ∙ when_true (not (eqb s.run.len 0)) (stays_of s (Err Busy)) _ (ap not (ne_eqb s.run.len 0 busy))
