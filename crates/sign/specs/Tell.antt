-- What the sign tells: its reply to a query (J16, W10, W11), and its running body (S28). N16, for the reply N19, then N34.
use Rattle.std.specs.Prelude.{ℕ, List, [], ◌∷◌, Bool, not, eqb}
use Rattle.basis.specs.Rows.{Row, ◌if◌}
use Rattle.completed.specs.Completed.{last_of}
use Rattle.packet.specs.Mid.{mid_row}
use Rattle.packet.specs.Wire.{reply_of}
use Rattle.packet.specs.Write.{short_by}
use Rattle.machine.specs.Sound.{body_of}
use Rattle.sign.specs.Sound.{sound_of}
use Rattle.sign.specs.declared.Sign.{Sign}

-- Busy is to have a body
abbrev pub busy_of : Sign → Bool
busy_of s = not (eqb s.run.len 0)

-- the reply: AUX is the caller's, not the record's drive
abbrev pub says_of : Sign → ℕ → Bool → List ℕ
says_of s mid aux = reply_of mid (last_of s.completed) (busy_of s) aux

-- the running body, none when Ready
abbrev pub running_body : Sign → List ℕ
running_body s = body_of s.room s.run

-- 16, before the other refusals of a call on a sign
abbrev pub told_rows : Sign → List Row → List Row
told_rows s rows = 16 if not (sound_of s) ∷ rows

-- the refusals of the reply, and of the copy
abbrev pub says_rows : Sign → ℕ → Bool → List ℕ → List Row
says_rows s mid aux out = told_rows s (mid_row mid ∷ short_by (says_of s mid aux) out ∷ [])

abbrev pub copy_rows : Sign → List ℕ → List Row
copy_rows s out = told_rows s (short_by (running_body s) out ∷ [])
