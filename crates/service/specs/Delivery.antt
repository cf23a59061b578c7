-- The packets of a body received in order: demand 2, by J9 to J12.
use Rattle.std.specs.Prelude.{ℕ, zero, suc, ◌<◌, List, ◌≡◌, Bool, true, false, length, take, replicate, Err, Ok}
use Rattle.packet.specs.Wire.{total_of, packet_at}
use Rattle.room.specs.Room.{room_of}
use Rattle.judge.specs.Verdict.{judge_of}
use Rattle.grammar.specs.Grammar.{accepted_as}
use Rattle.refusal.specs.declared.Fault.{Fault}
use Rattle.completed.specs.Completed.{has_of, added_of}
use Rattle.collect.specs.Slots.{slots_in, none_of}
use Rattle.machine.specs.Step.{started_of}
use Rattle.hear.specs.Join.{begins_of}
use Rattle.sign.specs.Sound.{collected_of}
use Rattle.sign.specs.Join.{stays_of}
use Rattle.sign.specs.Receive.{receive_of}
use Rattle.sign.specs.declared.Sign.{Sign}
use Rattle.sign.specs.declared.Received.{Received}
use Rattle.hear.specs.Hear.{body_length}
use Rattle.hear.specs.declared.Outcome.TheVariants.{Stored, Released}

-- the record after the first packets of a body
abbrev pub after_packets : Sign → ℕ → ℕ → List ℕ → ℕ → Sign
after_packets s mid id body zero = s
after_packets s mid id body (suc n) = (receive_of (after_packets s mid id body n) mid (packet_at mid id body n)).sign

-- what the packet at a position is answered, after those before it
abbrev pub answer_to : Sign → ℕ → ℕ → List ℕ → ℕ → Received
answer_to s mid id body p = receive_of (after_packets s mid id body p) mid (packet_at mid id body p)

-- the sign is Ready, doesn't collect that ID and hasn't it among its completed IDs
pub record Awaits (s : Sign) (id : ℕ) : Type 0 where
  pub ready : s.run.len ≡ 0
  pub other : has_of s.completed id ≡ false
  pub begins : begins_of (collected_of s) id ≡ true

-- the packets of a body are delivered: all but the last are Stored, with no body; the last is Released, with the same bytes
pub record Delivered (s : Sign) (mid id : ℕ) (body : List ℕ) : Type 0 where
  pub stored : (p : ℕ) → suc p < total_of body → answer_to s mid id body p ≡ stays_of (after_packets s mid id body (suc p)) (Ok Stored)
  pub released : (p : ℕ) → suc p ≡ total_of body → (answer_to s mid id body p).outcome ≡ Ok (Released (judge_of body) (length body))
  pub same : (p : ℕ) → suc p ≡ total_of body → take (body_length (answer_to s mid id body p).outcome) (answer_to s mid id body p).body ≡ body
  -- the ID is then completed, and nothing is collected
  pub completed : (p : ℕ) → suc p ≡ total_of body → (answer_to s mid id body p).sign.completed ≡ added_of s.completed id
  pub none : (p : ℕ) → suc p ≡ total_of body → (answer_to s mid id body p).sign.slots ≡ slots_in none_of
  -- an accepted body is in its room, and runs from its first command with the settings it had
  pub holds : (p : ℕ) → suc p ≡ total_of body → (endless : Bool) → judge_of body ≡ accepted_as endless
      → (answer_to s mid id body p).sign.room ≡ room_of body
  pub runs : (p : ℕ) → suc p ≡ total_of body → (endless : Bool) → judge_of body ≡ accepted_as endless
      → (answer_to s mid id body p).sign.run ≡ started_of (length body) s.run.settings
  -- with another the room is emptied and it stays Ready
  pub empty : (p : ℕ) → suc p ≡ total_of body → (w : Fault) → judge_of body ≡ Err w → (answer_to s mid id body p).sign.room ≡ replicate 84 0
  pub rests : (p : ℕ) → suc p ≡ total_of body → (w : Fault) → judge_of body ≡ Err w → (answer_to s mid id body p).sign.run ≡ s.run
