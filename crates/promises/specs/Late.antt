-- Late copies (C-23): after lines a sign knows the last four of their numbers. A packet of one of these is a Repeat that
-- changes nothing, and a number that was pushed out is new again. By J4, J5, J6 and J10.
use Rattle.std.specs.Prelude.{ℕ, true, false, List, [], ◌∷◌, ◌++◌, ◌≡◌, take, drop, replicate, Ok}
use Rattle.basis.specs.Told.{no}
use Rattle.packet.specs.Wire.{total_of}
use Rattle.reader.specs.Read.{read_of}
use Rattle.reader.specs.declared.read.Packet.TheVariants.{Normal}
use Rattle.completed.specs.Completed.{ids_of, is_among, differ_of}
use Rattle.collect.specs.Slots.{begun_of, stored_of}
use Rattle.hear.specs.Join.{begins_of}
use Rattle.sign.specs.Join.{counted_of}
use Rattle.sign.specs.Receive.{receive_of}
use Rattle.sign.specs.Sound.{collected_of}
use Rattle.service.specs.Delivery.{Awaits}
use Rattle.service.specs.Driver.{moves_completed, Event, step, bytes}
use Rattle.service.specs.Good.{Good}
use Rattle.promises.specs.Unit.{Calls}
use Rattle.promises.specs.Record.{stays, Heeds}
use Rattle.promises.specs.Delivery.{behind}
use Rattle.promises.specs.Dispatch.{Repeated}
use Rattle.promises.specs.Line.{after}

-- a line sent to a sign: its number, its body, a program or not, the buffer that its packets are written into, and what comes after it, up to the next line
pub record Sent : Type 0 where
  pub id : ℕ
  pub body : List ℕ
  pub out : List ℕ
  pub events : List Event

-- their numbers
abbrev pub ids_in : List Sent → List ℕ
ids_in [] = []
ids_in (x ∷ xs) = x.id ∷ ids_in xs

-- the record after the packets of a line
abbrev pub delivered : {R : Type 0} → Calls R → ℕ → Sent → R → R
delivered u mid x r = behind u r mid (u.transmit mid x.id x.body x.out).buffer (total_of x.body)

-- the record after lines, the newest first, and all that came after each
abbrev pub after_all : {R : Type 0} → Calls R → ℕ → List Sent → R → R
after_all u mid [] r = r
after_all u mid (x ∷ xs) r = after u mid x.events (delivered u mid x (after_all u mid xs r))

-- steps, and bytes that by the rules are no reset and complete nothing: copies, queries, damaged packets, parts of other lines
abbrev pub Between : {R : Type 0} → Calls R → ℕ → List Event → R → Type 0
Between u mid [] r = Unit
Between u mid (step ∷ es) r = Between u mid es (u.step r).next
Between u mid (bytes b ∷ es) r =
    (moves_completed (receive_of (u.holds r) mid b).outcome ≡ false) × Between u mid es (u.receive r mid b).next

-- each line was written, and came to a sign that awaits its number
abbrev pub Came : {R : Type 0} → Calls R → ℕ → List Sent → R → Type 0
Came u mid [] r = Unit
Came u mid (x ∷ xs) r =
    ((u.transmit mid x.id x.body x.out).told.number ≡ 0)
    × (Awaits (u.holds (after_all u mid xs r)) x.id × (Between u mid x.events (delivered u mid x (after_all u mid xs r)) × Came u mid xs r))

-- packets that come late, to a sign that knows four numbers and has forgotten another
pub record Late {R : Type 0} (u : Calls R) (mid : ℕ) (r : R) (four : List ℕ) (other : ℕ) : Type 0 where
  pub repeats : (b : List ℕ) (id total position len : ℕ) → read_of mid b ≡ Ok (Normal id total position len) → is_among id four ≡ true → Repeated u r mid b
  pub waits : (b : List ℕ) (total position len : ℕ) → read_of mid b ≡ Ok (Normal other total position len) → ((u.holds r).run.len ≡ 0 → ⊥)
      → u.receive r mid b ≡ stays r (no 12)
  pub begins : (b : List ℕ) (total position len : ℕ) → read_of mid b ≡ Ok (Normal other total position len) → (u.holds r).run.len ≡ 0
      → begins_of (collected_of (u.holds r)) other ≡ true
      → Heeds u (u.receive r mid b) (counted_of (u.holds r) (stored_of (begun_of other total) position (take len (drop 5 b))))

pub record LateCopies {R : Type 0} (u : Calls R) : Type 0 where
  -- after any number of lines: their numbers and those of before, and four at most
  pub known : (r : R) → Good (u.holds r) → (mid : ℕ) (xs : List Sent) → Came u mid xs r
      → ids_of (u.holds (after_all u mid xs r)).completed ≡ take 4 (ids_in xs ++ ids_of (u.holds r).completed)
  -- where steps alone come after the last line nothing is being collected, so that to a Ready sign a number that isn't known begins
  pub collects_nothing : (r : R) → Good (u.holds r) → (mid : ℕ) (x : Sent) (xs : List Sent) (k : ℕ) → Came u mid (x ∷ xs) r → x.events ≡ replicate k step
      → (id : ℕ) → begins_of (collected_of (u.holds (after_all u mid (x ∷ xs) r))) id ≡ true
  -- after five lines of different numbers: the last four are known, and the first is new again. That they differ is no limit: each
  -- was awaited while those before it were known
  pub five : (r : R) → Good (u.holds r) → (mid : ℕ) (a b c d e : Sent) → Came u mid (e ∷ d ∷ c ∷ b ∷ a ∷ []) r
      → differ_of (ids_in (e ∷ d ∷ c ∷ b ∷ a ∷ [])) ≡ true
      → Late u mid (after_all u mid (e ∷ d ∷ c ∷ b ∷ a ∷ []) r) (ids_in (e ∷ d ∷ c ∷ b ∷ [])) a.id
