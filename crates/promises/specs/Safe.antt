-- Demand 1: no packet, program, record or buffer trips a unit. A refusal changes no record and no lent byte (N0, J2),
-- and a record that isn't sound is 16 (R1, N16).
use Rattle.std.specs.Prelude.{ℕ, Bool, false, List, [], ◌≡◌}
use Rattle.basis.specs.Told.{no}
use Rattle.sign.specs.Sound.{sound_of}
use Rattle.service.specs.Good.{Good}
use Rattle.promises.specs.Unit.{Wrote, Calls}

-- a writer that refuses leaves the buffer
abbrev pub Leaves : (List ℕ → Wrote) → Type 0
Leaves w = (out : List ℕ) → ((w out).told.number ≡ 0 → ⊥) → (w out).buffer ≡ out

pub record NoTrip {R : Type 0} (u : Calls R) : Type 0 where
  -- power-on is sound, and a sound record stays sound under every call
  pub begins : Good (u.holds u.power)
  pub received : (r : R) (mid : ℕ) (b : List ℕ) → Good (u.holds r) → Good (u.holds (u.receive r mid b).next)
  pub stepped : (r : R) → Good (u.holds r) → Good (u.holds (u.step r).next)
  pub cleared : (r : R) → Good (u.holds r) → Good (u.holds (u.clear r).next)
  -- a refusal leaves the record, and no body comes with it
  pub receive_leaves : (r : R) (mid : ℕ) (b : List ℕ) → ((u.receive r mid b).told.number ≡ 0 → ⊥) → (u.receive r mid b).next ≡ r
  pub receive_empty : (r : R) (mid : ℕ) (b : List ℕ) → ((u.receive r mid b).told.number ≡ 0 → ⊥) → (u.receive r mid b).body ≡ []
  pub step_leaves : (r : R) → ((u.step r).told.number ≡ 0 → ⊥) → (u.step r).next ≡ r
  pub clear_leaves : (r : R) → ((u.clear r).told.number ≡ 0 → ⊥) → (u.clear r).next ≡ r
  -- and each lent byte
  pub query_leaves : (mid : ℕ) → Leaves (u.query mid)
  pub reset_leaves : (mid : ℕ) → Leaves (u.reset mid)
  pub write_leaves : (mid id : ℕ) (body : List ℕ) (position : ℕ) → Leaves (u.write mid id body position)
  pub transmit_leaves : (mid id : ℕ) (body : List ℕ) → Leaves (u.transmit mid id body)
  pub answer_leaves : (mid last : ℕ) (busy sink : Bool) → Leaves (u.answer mid last busy sink)
  pub reply_leaves : (r : R) (mid : ℕ) (sink : Bool) → Leaves (u.reply r mid sink)
  pub copy_leaves : (r : R) → Leaves (u.copy r)
  -- a record that isn't sound is 16 in every call that takes one
  pub receive_unsound : (r : R) (mid : ℕ) (b : List ℕ) → sound_of (u.holds r) ≡ false → (u.receive r mid b).told ≡ no 16
  pub step_unsound : (r : R) → sound_of (u.holds r) ≡ false → (u.step r).told ≡ no 16
  pub clear_unsound : (r : R) → sound_of (u.holds r) ≡ false → (u.clear r).told ≡ no 16
  pub reply_unsound : (r : R) (mid : ℕ) (sink : Bool) (out : List ℕ) → sound_of (u.holds r) ≡ false → (u.reply r mid sink out).told ≡ no 16
  pub copy_unsound : (r : R) (out : List ℕ) → sound_of (u.holds r) ≡ false → (u.copy r out).told ≡ no 16
