-- From dispatch to Ready: demands 2 and 3 and the driver's wish (a line that has started runs to its end, once, and no
-- late copy starts it again), by J4, J10, J11, S11, S22, S24, S26 and S32. The forecast, its sums and the Repeats are
-- the unit's own answers; Busy and Ready are those of the record, which the reply tells (Record: `replies`).
use Rattle.std.specs.Prelude.{ℕ, suc, ◌+◌, ◌≤◌, ◌<◌, List, [], ◌∷◌, ◌≡◌, replicate, Ok}
use Rattle.basis.specs.Told.{Told}
use Rattle.packet.specs.Wire.{total_of}
use Rattle.judge.specs.Verdict.{told_of as verdict_told}
use Rattle.judge.specs.declared.Ending.TheVariants.{Finite, Endless}
use Rattle.hear.specs.Hear.{told_of as outcome_told}
use Rattle.hear.specs.declared.Outcome.TheVariants.{Repeat}
use Rattle.service.specs.Delivery.{Awaits}
use Rattle.service.specs.Driver.{Event, step, steps_in, Quiet}
use Rattle.service.specs.Good.{Good}
use Rattle.promises.specs.Unit.{Calls, value_at}
use Rattle.promises.specs.Record.{stays}
use Rattle.promises.specs.Delivery.{packet_in, behind}
use Rattle.promises.specs.Line.{after, said, then_step}

-- the sum over answers of the value at a position
abbrev pub sum_at : ℕ → List Told → ℕ
sum_at i [] = 0
sum_at i (t ∷ ts) = value_at i t + sum_at i ts

-- no answer of these is a refusal
abbrev pub AllYes : List Told → Type 0
AllYes [] = Unit
AllYes (t ∷ ts) = (t.number ≡ 0) × AllYes ts

-- bytes that are answered Repeat and change nothing
abbrev pub Repeated : {R : Type 0} → Calls R → R → ℕ → List ℕ → Type 0
Repeated u r mid b = u.receive r mid b ≡ stays r (outcome_told (Ok Repeat))

-- from the record t after the delivery, told this forecast: any mix of steps and bytes that are no reset for this MID
pub record Arrives {R : Type 0} (u : Calls R) (t : R) (mid : ℕ) (body buffer : List ℕ) (foretold : Told) : Type 0 where
  -- the forecast is of a program that ends, and its steps are one at least and never pass 3,961
  pub known : foretold.number ≡ 0
  pub ends : value_at 0 foretold ≡ 0
  pub some : 1 ≤ value_at 1 foretold
  pub most : value_at 1 foretold ≤ 3961
  -- Busy before the last of exactly the forecast's steps, and Ready after it
  pub busy : (es : List Event) → Quiet mid es → steps_in es < value_at 1 foretold → (u.holds (after u mid es t)).run.len ≡ 0 → ⊥
  pub ready : (es : List Event) → Quiet mid es → suc (steps_in es) ≡ value_at 1 foretold → (u.holds (after u mid (then_step es) t)).run.len ≡ 0
  -- no step is refused, and the scans and milliseconds of the answers add up to the forecast
  pub unrefused : (es : List Event) → Quiet mid es → suc (steps_in es) ≡ value_at 1 foretold → AllYes (said u mid (then_step es) t)
  pub scans : (es : List Event) → Quiet mid es → suc (steps_in es) ≡ value_at 1 foretold → sum_at 5 (said u mid (then_step es) t) ≡ value_at 2 foretold
  pub millis : (es : List Event) → Quiet mid es → suc (steps_in es) ≡ value_at 1 foretold → sum_at 6 (said u mid (then_step es) t) ≡ value_at 3 foretold
  -- the sign is left with the pace and scan setting that the forecast tells, so that the next message can be forecast too
  pub pace_left : (es : List Event) → Quiet mid es → suc (steps_in es) ≡ value_at 1 foretold
      → (u.holds (after u mid (then_step es) t)).run.settings.pace ≡ value_at 4 foretold
  pub scans_left : (es : List Event) → Quiet mid es → suc (steps_in es) ≡ value_at 1 foretold
      → (u.holds (after u mid (then_step es) t)).run.settings.scans ≡ value_at 5 foretold
  -- every packet of that body that comes meanwhile is a Repeat that changes nothing, and so is one that comes after the end and any number of
  -- further steps
  pub copies : (es : List Event) → Quiet mid es → steps_in es < value_at 1 foretold → (p : ℕ) → p < total_of body
      → Repeated u (after u mid es t) mid (packet_in buffer p)
  pub copies_then : (es : List Event) → Quiet mid es → suc (steps_in es) ≡ value_at 1 foretold → (k p : ℕ) → p < total_of body
      → Repeated u (after u mid (replicate k step) (after u mid (then_step es) t)) mid (packet_in buffer p)

-- and of a program that never ends: the forecast says so, it is Busy after any of them, no step is refused, and every copy is a Repeat
pub record GoesOn {R : Type 0} (u : Calls R) (t : R) (mid : ℕ) (body buffer : List ℕ) (foretold : Told) : Type 0 where
  pub known : foretold.number ≡ 0
  pub endless : value_at 0 foretold ≡ 1
  pub busy : (es : List Event) → Quiet mid es → (u.holds (after u mid es t)).run.len ≡ 0 → ⊥
  pub unrefused : (es : List Event) → Quiet mid es → AllYes (said u mid es t)
  pub copies : (es : List Event) → Quiet mid es → (p : ℕ) → p < total_of body → Repeated u (after u mid es t) mid (packet_in buffer p)

-- the promise: a body that the unit accepts as a program, written by it and delivered to a sound and Ready sign that awaits the number
pub record DispatchToReady {R : Type 0} (u : Calls R) : Type 0 where
  pub finite : (r : R) → Good (u.holds r) → (mid id : ℕ) (body out : List ℕ) → u.judge body ≡ verdict_told (Ok Finite)
      → (u.transmit mid id body out).told.number ≡ 0
      → Awaits (u.holds r) id
      → Arrives u (behind u r mid (u.transmit mid id body out).buffer (total_of body)) mid body (u.transmit mid id body out).buffer
      (u.forecast body (u.holds r).run.settings.pace (u.holds r).run.settings.scans)
  pub endless : (r : R) → Good (u.holds r) → (mid id : ℕ) (body out : List ℕ) → u.judge body ≡ verdict_told (Ok Endless)
      → (u.transmit mid id body out).told.number ≡ 0
      → Awaits (u.holds r) id
      → GoesOn u (behind u r mid (u.transmit mid id body out).buffer (total_of body)) mid body (u.transmit mid id body out).buffer
      (u.forecast body (u.holds r).run.settings.pace (u.holds r).run.settings.scans)
