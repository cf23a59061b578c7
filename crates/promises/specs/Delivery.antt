-- The delivery: a body written as a transmission (W16), its packets taken out of the buffer by walking over it, and
-- received in order. Demand 2, by J9 to J12, and J4 for copies.
use Rattle.std.specs.Prelude.{ℕ, zero, suc, ◌<◌, Bool, List, [], ◌≡◌, length, get_or, take, drop, replicate, Err, Ok}
use Rattle.packet.specs.Wire.{total_of}
use Rattle.room.specs.Room.{room_of}
use Rattle.judge.specs.Verdict.{judge_of}
use Rattle.refusal.specs.declared.Fault.{Fault}
use Rattle.grammar.specs.Grammar.{accepted_as}
use Rattle.completed.specs.Completed.{added_of}
use Rattle.collect.specs.Slots.{slots_in, none_of}
use Rattle.machine.specs.Step.{started_of}
use Rattle.hear.specs.Hear.{told_of as outcome_told}
use Rattle.hear.specs.declared.Outcome.TheVariants.{Repeat, Stored, Released}
use Rattle.service.specs.Delivery.{Awaits}
use Rattle.service.specs.Good.{Good}
use Rattle.promises.specs.Unit.{Heard, Calls}
use Rattle.promises.specs.Record.{stays}

-- the packet at a position of a buffer of packets back to back: the third byte of each says where the next begins
abbrev pub packet_in : List ℕ → ℕ → List ℕ
packet_in buffer zero = take (get_or buffer 2 0) buffer
packet_in buffer (suc p) = packet_in (drop (get_or buffer 2 0) buffer) p

-- the record after the first packets in a buffer, and what the packet at a position is answered after those before it
abbrev pub behind : {R : Type 0} → Calls R → R → ℕ → List ℕ → ℕ → R
behind u r mid buffer zero = r
behind u r mid buffer (suc n) = (u.receive (behind u r mid buffer n) mid (packet_in buffer n)).next

abbrev pub answered : {R : Type 0} → Calls R → R → ℕ → List ℕ → ℕ → Heard R
answered u r mid buffer p = u.receive (behind u r mid buffer p) mid (packet_in buffer p)

-- a body delivered by the packets in this buffer: released by the last and by no other, with the same bytes
pub record Gets {R : Type 0} (u : Calls R) (r : R) (mid id : ℕ) (body buffer : List ℕ) : Type 0 where
  pub stored : (p : ℕ) → suc p < total_of body → (answered u r mid buffer p).told ≡ outcome_told (Ok Stored)
  pub nothing : (p : ℕ) → suc p < total_of body → (answered u r mid buffer p).body ≡ []
  pub released : (p : ℕ) → suc p ≡ total_of body → (answered u r mid buffer p).told ≡ outcome_told (Ok (Released (judge_of body) (length body)))
  pub same : (p : ℕ) → suc p ≡ total_of body → (answered u r mid buffer p).body ≡ body
  -- the ID is then completed, and nothing is collected
  pub completed : (u.holds (behind u r mid buffer (total_of body))).completed ≡ added_of (u.holds r).completed id
  pub none : (u.holds (behind u r mid buffer (total_of body))).slots ≡ slots_in none_of
  -- a program is in the room and runs from its first command, with the settings that there were
  pub holds : (endless : Bool) → judge_of body ≡ accepted_as endless → (u.holds (behind u r mid buffer (total_of body))).room ≡ room_of body
  pub runs : (endless : Bool) → judge_of body ≡ accepted_as endless
      → (u.holds (behind u r mid buffer (total_of body))).run ≡ started_of (length body) (u.holds r).run.settings
  -- with another body the room is empty and the sign rests
  pub empty : (w : Fault) → judge_of body ≡ Err w → (u.holds (behind u r mid buffer (total_of body))).room ≡ replicate 84 0
  pub rests : (w : Fault) → judge_of body ≡ Err w → (u.holds (behind u r mid buffer (total_of body))).run ≡ (u.holds r).run
  -- and a copy of any of those packets is a Repeat that changes nothing
  pub repeats : (p : ℕ) → p < total_of body
      → u.receive (behind u r mid buffer (total_of body)) mid (packet_in buffer p) ≡ stays (behind u r mid buffer (total_of body)) (outcome_told (Ok Repeat))

-- the promise: of every transmission that was written, into whatever buffer
abbrev pub Delivers : {R : Type 0} → Calls R → Type 0
Delivers {R} u =
    (r : R) → Good (u.holds r) → (mid id : ℕ) (body out : List ℕ) → (u.transmit mid id body out).told.number ≡ 0 → Awaits (u.holds r) id
    → Gets u r mid id body (u.transmit mid id body out).buffer
