-- What is told: the rows of the callee's refusals are those of the call, once the record is sound.
use Prim.Native.Nat.{ℕ, ◌≤◌, ◌<◌}
use mathlib.Core.List.{List, [], ◌∷◌, ◌++◌}
use mathlib.Core.Bool.{Bool, true, false, not}
use mathlib.Core.Path.{◌≡◌, sym, ap, ◌∙◌, subst}
use native.Mathlib.Omega.{arith}
use lib.ListN.{length, take, drop}
use lib.Seq.{length-take-le, take-length}
use borrow.Author.Tests.{le-ltb, lt-ltb}
use Rattle.basis.specs.Bytes.{laid}
use Rattle.basis.specs.Choice.{when}
use Rattle.basis.specs.Rows.{Row, ◌if◌, first_of}
use Rattle.machine.specs.Sound.{body_of}
use Rattle.completed.specs.Completed.{last_of, sound_of as completed_sound}
use Rattle.completed.proofs.Laws.{last_told}
use Rattle.reply.specs.Reply.{reply_rows}
use Rattle.packet.specs.Mid.{mid_row}
use Rattle.packet.specs.Wire.{reply_of}
use Rattle.packet.specs.Write.{short_by, answer_of, buffer_of, Writes}
use Rattle.std.specs.Prelude.{Result, Ok, Err}
use Rattle.refusal.specs.declared.Refusal.{Refusal}
use Rattle.refusal.specs.declared.Refusal.TheVariants.{Unsound, NoRoom}
use Rattle.packet.proofs.Writing.{refused, wrote}
use Rattle.sign.specs.Sound.{sound_of}
use Rattle.sign.specs.Tell.{busy_of, says_of, told_rows, says_rows, copy_rows}
use Rattle.sign.specs.declared.Sign.{Sign}

-- an unsound record is 16
pub unsound_tells : (s : Sign) (rows : List Row) (bytes out : List ℕ) → sound_of s ≡ false → Writes (told_rows s rows) bytes out (Err Unsound) out
unsound_tells s rows bytes out e = refused (told_rows s rows) bytes out 15 (ap (λ (t : Bool). first_of (16 if not t ∷ rows)) e)

-- of a sound record the other rows decide
sound_rows : (s : Sign) (rows : List Row) → sound_of s ≡ true → first_of (told_rows s rows) ≡ first_of rows
sound_rows s rows e = ap (λ (t : Bool). first_of (16 if not t ∷ rows)) e

pub reply_tells : (s : Sign) (mid : ℕ) (aux : Bool) (out after : List ℕ) (r : Result ℕ Refusal) (last : ℕ) → sound_of s ≡ true → completed_sound s.completed ≡ true
    → last ≡ last_of s.completed
    → Writes (mid_row mid ∷ reply_rows mid last (busy_of s) aux out) (reply_of mid last (busy_of s) aux) out r after
    → Writes (says_rows s mid aux out) (says_of s mid aux) out r after
reply_tells s mid aux out after r last sound completed same w =
    let bytes = says_of s mid aux in
    let w : Writes (mid_row mid ∷ reply_rows mid (last_of s.completed) (busy_of s) aux out) bytes out r after =
    subst (λ (n : ℕ). Writes (mid_row mid ∷ reply_rows mid n (busy_of s) aux out) (reply_of mid n (busy_of s) aux) out r after) same w in
    let e : first_of (mid_row mid ∷ reply_rows mid (last_of s.completed) (busy_of s) aux out) ≡ first_of (says_rows s mid aux out) =
    ap (λ (t : Bool). first_of (mid_row mid ∷ 32 if not t ∷ short_by bytes out ∷ [])) (last_told s.completed completed) ∙ sym (sound_rows s (mid_row mid ∷ short_by bytes out ∷ []) sound) in
    record { answered = w.answered ∙ ap (λ (n : ℕ). answer_of n bytes) e; left = w.left ∙ ap (λ (n : ℕ). buffer_of n bytes out) e }

module _ (s : Sign) (out : List ℕ) (sound : sound_of s ≡ true) (room : s.run.len ≤ length s.room) where
  size : length (body_of s.room s.run) ≡ s.run.len
  size = length-take-le s.run.len s.room room

  pub short_tells : length out < s.run.len → Writes (copy_rows s out) (body_of s.room s.run) out (Err NoRoom) out
  short_tells h =
      refused (copy_rows s out) (body_of s.room s.run) out 33
      (sound_rows s (short_by (body_of s.room s.run) out ∷ []) sound ∙ ap (λ (t : Bool). when t 34 0) (lt-ltb (length out) (length (body_of s.room s.run)) (omega (arith, size))))

  pub copy_tells : (after : List ℕ) → s.run.len ≤ length out
      → after ≡ take (length (body_of s.room s.run)) (body_of s.room s.run) ++ drop (length (body_of s.room s.run)) out
      → Writes (copy_rows s out) (body_of s.room s.run) out (Ok s.run.len) after
  unfolding laid
  copy_tells after h e =
      wrote (copy_rows s out) (body_of s.room s.run) out s.run.len after
      (sound_rows s (short_by (body_of s.room s.run) out ∷ []) sound ∙ ap (λ (t : Bool). when t 34 0) (le-ltb (length out) (length (body_of s.room s.run)) (omega (arith, size))))
      (sym size)
      (e ∙ ap (λ (x : List ℕ). x ++ drop (length (body_of s.room s.run)) out) (take-length (body_of s.room s.run)))
