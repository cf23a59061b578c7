-- The record: joining, rule by rule (J2 to J13), what a reset (J14) and power-on (J15) leave, a step (S1, S12), and
-- what a sign tells of itself: the reply (J16), the copy of the running body (S28), and the repeater's part (S29, S30).
use Rattle.std.specs.Prelude.{ℕ, ◌+◌, ◌≤◌, ◌<◌, Bool, true, false, List, [], ◌∷◌, ◌≡◌, length, get_or, take, drop, Ok, Err, None}
use Rattle.basis.specs.Told.{Told, no}
use Rattle.refusal.specs.Refusal.{number_of}
use Rattle.refusal.specs.declared.Refusal.{Refusal}
use Rattle.packet.specs.Mid.{mid_row}
use Rattle.packet.specs.Write.{short_by}
use Rattle.reader.specs.Read.{read_of}
use Rattle.reader.specs.declared.read.Packet.TheVariants.{Query as QueryRead, Reset as ResetRead, Normal}
use Rattle.completed.specs.Completed.{has_of}
use Rattle.collect.specs.Slots.{begun_of, stored_of}
use Rattle.machine.specs.Step.{step_of as run_step, told_of as answer_told}
use Rattle.hear.specs.Hear.{told_of as outcome_told}
use Rattle.hear.specs.Join.{begins_of, slot_of}
use Rattle.hear.specs.declared.Outcome.TheVariants.{Query, Reset, Repeat}
use Rattle.sign.specs.Join.{stays_of, counted_of}
use Rattle.sign.specs.Reset.{power_on, reset_of}
use Rattle.sign.specs.Sound.{collected_of}
use Rattle.sign.specs.Step.{stepped_of}
use Rattle.sign.specs.Tell.{says_of, running_body}
use Rattle.sign.specs.declared.Received.{Received}
use Rattle.service.specs.Good.{Good}
use Rattle.promises.specs.Unit.{Heard, Calls, heard_in, value_at}
use Rattle.promises.specs.Wire.{Lays}

-- nothing changes, and no body comes with the answer
abbrev pub stays : {R : Type 0} → R → Told → Heard R
stays r told = record { told = told; next = r; body = [] }

-- an answer, a next record and a body as the rules say
pub record Heeds {R : Type 0} (u : Calls R) (h : Heard R) (x : Received) : Type 0 where
  pub told : h.told ≡ (heard_in x).told
  pub next : u.holds h.next ≡ x.sign
  pub body : h.body ≡ (heard_in x).body

-- bytes that are no normal packet
pub record Answers {R : Type 0} (u : Calls R) (r : R) : Type 0 where
  pub unread : (mid : ℕ) (b : List ℕ) (e : Refusal) → read_of mid b ≡ Err e → u.receive r mid b ≡ stays r (no (number_of e))
  pub queried : (mid : ℕ) (b : List ℕ) → read_of mid b ≡ Ok QueryRead → u.receive r mid b ≡ stays r (outcome_told (Ok Query))
  pub cleared : (mid : ℕ) (b : List ℕ) → read_of mid b ≡ Ok ResetRead → Heeds u (u.receive r mid b) (stays_of (reset_of (u.holds r)) (Ok Reset))

-- a normal packet, in the order of the rules: a completed number; Busy; another number than the one collected; and of the same
-- number another N, a free position, a position held with equal data, and one held with other data
pub record Joins {R : Type 0} (u : Calls R) (r : R) (mid : ℕ) (b : List ℕ) (id total position : ℕ) (part : List ℕ) : Type 0 where
  pub repeats : has_of (u.holds r).completed id ≡ true → u.receive r mid b ≡ stays r (outcome_told (Ok Repeat))
  pub waits : has_of (u.holds r).completed id ≡ false → ((u.holds r).run.len ≡ 0 → ⊥) → u.receive r mid b ≡ stays r (no 12)
  pub begins : has_of (u.holds r).completed id ≡ false → (u.holds r).run.len ≡ 0 → begins_of (collected_of (u.holds r)) id ≡ true
      → Heeds u (u.receive r mid b) (counted_of (u.holds r) (stored_of (begun_of id total) position part))
  pub other_total : has_of (u.holds r).completed id ≡ false → (u.holds r).run.len ≡ 0 → begins_of (collected_of (u.holds r)) id ≡ false
      → ((u.holds r).slots.total ≡ total → ⊥)
      → u.receive r mid b ≡ stays r (no 13)
  pub goes_in : has_of (u.holds r).completed id ≡ false → (u.holds r).run.len ≡ 0 → begins_of (collected_of (u.holds r)) id ≡ false
      → (u.holds r).slots.total ≡ total
      → get_or (u.holds r).slots.lens position 0 ≡ 0
      → Heeds u (u.receive r mid b) (counted_of (u.holds r) (stored_of (collected_of (u.holds r)) position part))
  pub again : has_of (u.holds r).completed id ≡ false → (u.holds r).run.len ≡ 0 → begins_of (collected_of (u.holds r)) id ≡ false
      → (u.holds r).slots.total ≡ total
      → (get_or (u.holds r).slots.lens position 0 ≡ 0 → ⊥)
      → slot_of (collected_of (u.holds r)) position ≡ part
      → u.receive r mid b ≡ stays r (outcome_told (Ok Repeat))
  pub differs : has_of (u.holds r).completed id ≡ false → (u.holds r).run.len ≡ 0 → begins_of (collected_of (u.holds r)) id ≡ false
      → (u.holds r).slots.total ≡ total
      → (get_or (u.holds r).slots.lens position 0 ≡ 0 → ⊥)
      → (slot_of (collected_of (u.holds r)) position ≡ part → ⊥)
      → u.receive r mid b ≡ stays r (no 13)

-- a step of a Busy sign performs the command at its place, and one of a Ready sign is Idle and changes nothing
pub record Steps {R : Type 0} (u : Calls R) (r : R) : Type 0 where
  pub told : (u.step r).told ≡ answer_told (run_step (u.holds r).room (u.holds r).run).answer
  pub next : u.holds (u.step r).next ≡ (stepped_of (u.holds r) (run_step (u.holds r).room (u.holds r).run)).sign
  pub rests : (u.holds r).run.len ≡ 0 → u.step r ≡ record { told = answer_told (Ok None); next = r }

-- a reset by a call
pub record Clears {R : Type 0} (u : Calls R) (r : R) : Type 0 where
  pub told : (u.clear r).told ≡ outcome_told (Ok Reset)
  pub next : u.holds (u.clear r).next ≡ reset_of (u.holds r)

pub record Obeys {R : Type 0} (u : Calls R) : Type 0 where
  pub powers : u.holds u.power ≡ power_on
  pub answers : (r : R) → Good (u.holds r) → Answers u r
  pub joins : (r : R) → Good (u.holds r) → (mid : ℕ) (b : List ℕ) (id total position len : ℕ) → read_of mid b ≡ Ok (Normal id total position len)
      → Joins u r mid b id total position (take len (drop 5 b))
  pub steps : (r : R) → Good (u.holds r) → Steps u r
  pub clears : (r : R) → Good (u.holds r) → Clears u r
  -- the reply tells last ID and state as the record holds them, and AUX as the caller says; the copy is the running body
  pub replies : (r : R) → Good (u.holds r) → (mid : ℕ) (sink : Bool) (out : List ℕ)
      → Lays (mid_row mid ∷ short_by (says_of (u.holds r) mid sink) out ∷ []) (says_of (u.holds r) mid sink) out (u.reply r mid sink out)
  pub copies : (r : R) → Good (u.holds r) → (out : List ℕ)
      → Lays (short_by (running_body (u.holds r)) out ∷ []) (running_body (u.holds r)) out (u.copy r out)
  -- the repeater hands back that very stretch of the body, or the whole standing line
  pub stretch : (body : List ℕ) (place len : ℕ) (standing : List ℕ) → (place ≡ 0 → ⊥) → place + len ≤ length body
      → u.repeat body place len standing ≡ take len (drop place body)
  pub standing : (body : List ℕ) (len : ℕ) (standing : List ℕ) → u.repeat body 0 len standing ≡ standing
  pub outside : (body : List ℕ) (place len : ℕ) (standing : List ℕ) → length body < place + len → u.repeat body place len standing ≡ standing
  -- the text that a step tells lies within the running body: of a copy made before the step, the repeater shows that very stretch
  pub within : (r : R) → Good (u.holds r) → value_at 2 (u.step r).told + value_at 3 (u.step r).told ≤ length (running_body (u.holds r))
