-- All promises of a unit in one place, and what it is for two units to be the same from outside: P3 and P4 ask less.
use Rattle.std.specs.Prelude.{ℕ, Bool, List, ◌≡◌}
use Rattle.basis.specs.Bytes.{Bytes}
use Rattle.service.specs.Good.{Roomy}
use Rattle.promises.specs.Unit.{Heard, Next, Calls, ours}
use Rattle.promises.specs.Safe.{NoTrip}
use Rattle.promises.specs.Guard.{Guards}
use Rattle.promises.specs.Wire.{WireHolds}
use Rattle.promises.specs.Record.{Obeys}
use Rattle.promises.specs.Delivery.{Delivers}
use Rattle.promises.specs.Late.{LateCopies}
use Rattle.promises.specs.Line.{LineRuns}
use Rattle.promises.specs.Dispatch.{DispatchToReady}
use Rattle.sign.specs.declared.Sign.{Sign}

pub record Keeps {R : Type 0} (u : Calls R) : Type 0 where
  pub dispatch : DispatchToReady u
  pub safe : NoTrip u
  pub guards : Guards u
  pub wire : WireHolds u
  pub obeys : Obeys u
  pub delivers : Delivers u
  pub late : LateCopies u
  pub line : LineRuns u

-- the same answer, and a next record that holds the same
pub record SameNext {R : Type 0} (u : Calls R) (x : Next R) (y : Next Sign) : Type 0 where
  pub told : x.told ≡ y.told
  pub next : u.holds x.next ≡ y.next

pub record SameHeard {R : Type 0} (u : Calls R) (x : Heard R) (y : Heard Sign) : Type 0 where
  pub told : x.told ≡ y.told
  pub next : u.holds x.next ≡ y.next
  pub body : x.body ≡ y.body

-- a unit that no caller can tell from ours: on bytes, and on records whose rooms have their sizes, sound or not. Not seen here are the bytes
-- after a released body in the room that it comes in, and which memory the repeater hands back; the contracts of our calls say both.
pub record Same {R : Type 0} (u : Calls R) : Type 0 where
  pub read : (mid : ℕ) (b : List ℕ) → Bytes b → u.read mid b ≡ ours.read mid b
  pub hear : (mid : ℕ) (b : List ℕ) → Bytes b → u.hear mid b ≡ ours.hear mid b
  pub query : (mid : ℕ) (out : List ℕ) → u.query mid out ≡ ours.query mid out
  pub reset : (mid : ℕ) (out : List ℕ) → u.reset mid out ≡ ours.reset mid out
  pub write : (mid id : ℕ) (body : List ℕ) (position : ℕ) (out : List ℕ) → u.write mid id body position out ≡ ours.write mid id body position out
  pub transmit : (mid id : ℕ) (body out : List ℕ) → u.transmit mid id body out ≡ ours.transmit mid id body out
  pub answer : (mid last : ℕ) (busy sink : Bool) (out : List ℕ) → u.answer mid last busy sink out ≡ ours.answer mid last busy sink out
  pub judge : (b : List ℕ) → u.judge b ≡ ours.judge b
  pub forecast : (b : List ℕ) (pace each : ℕ) → u.forecast b pace each ≡ ours.forecast b pace each
  pub power : u.holds u.power ≡ ours.power
  pub receive : (r : R) → Roomy (u.holds r) → (mid : ℕ) (b : List ℕ) → SameHeard u (u.receive r mid b) (ours.receive (u.holds r) mid b)
  pub step : (r : R) → Roomy (u.holds r) → SameNext u (u.step r) (ours.step (u.holds r))
  pub clear : (r : R) → Roomy (u.holds r) → SameNext u (u.clear r) (ours.clear (u.holds r))
  pub reply : (r : R) → Roomy (u.holds r) → (mid : ℕ) (sink : Bool) (out : List ℕ) → u.reply r mid sink out ≡ ours.reply (u.holds r) mid sink out
  pub copy : (r : R) → Roomy (u.holds r) → (out : List ℕ) → u.copy r out ≡ ours.copy (u.holds r) out
  pub repeat : (body : List ℕ) (place len : ℕ) (standing : List ℕ) → u.repeat body place len standing ≡ ours.repeat body place len standing
