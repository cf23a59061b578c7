-- What may happen to a record between power-on and power-off: steps, and bytes off the line, in any order.
-- The driver's wish: a line that has started runs to its end, once. J4, J5, J8, J13 and N0 say what changes nothing, J10
-- and J14 what changes the completed IDs.
use Rattle.std.specs.Prelude.{ℕ, zero, suc, List, [], ◌∷◌, ◌≡◌, Bool, true, false, Ok, Result, Err, Option}
use Rattle.perform.specs.declared.price.Performed.{Performed}
use Rattle.refusal.specs.declared.Refusal.{Refusal}
use Rattle.reader.specs.Read.{read_of}
use Rattle.reader.specs.declared.read.Packet.TheVariants.{Reset as ResetRead}
use Rattle.sign.specs.Receive.{receive_of}
use Rattle.sign.specs.Step.{step_of}
use Rattle.sign.specs.declared.Sign.{Sign}
use Rattle.hear.specs.declared.Outcome.{Outcome}
use Rattle.hear.specs.declared.Outcome.TheVariants.{Query, Reset, Repeat, Stored, Released}

-- whether an outcome may come with another record: not a query, a repeat or a refusal
abbrev pub moves_of : Result Outcome Refusal → Bool
moves_of (Ok Query) = false
moves_of (Ok Reset) = true
moves_of (Ok Repeat) = false
moves_of (Ok Stored) = true
moves_of (Ok (Released v len)) = true
moves_of (Err e) = false

-- whether an outcome may come with other completed IDs: a reset and a release alone
abbrev pub moves_completed : Result Outcome Refusal → Bool
moves_completed (Ok Query) = false
moves_completed (Ok Reset) = true
moves_completed (Ok Repeat) = false
moves_completed (Ok Stored) = false
moves_completed (Ok (Released v len)) = true
moves_completed (Err e) = false

-- a step, or bytes
pub data Event : Type 0 where
  step : Event
  bytes : List ℕ → Event

-- the record after events, and the answers of the steps among them
abbrev pub after_events : ℕ → List Event → Sign → Sign
after_events mid [] s = s
after_events mid (step ∷ es) s = after_events mid es (step_of s).sign
after_events mid (bytes b ∷ es) s = after_events mid es (receive_of s mid b).sign

abbrev pub said_events : ℕ → List Event → Sign → List (Result (Option Performed) Refusal)
said_events mid [] s = []
said_events mid (step ∷ es) s = (step_of s).answer ∷ said_events mid es (step_of s).sign
said_events mid (bytes b ∷ es) s = said_events mid es (receive_of s mid b).sign

-- so many steps alone
abbrev pub after_steps : ℕ → Sign → Sign
after_steps zero s = s
after_steps (suc n) s = after_steps n (step_of s).sign

abbrev pub said_steps : ℕ → Sign → List (Result (Option Performed) Refusal)
said_steps zero s = []
said_steps (suc n) s = (step_of s).answer ∷ said_steps n (step_of s).sign

-- how many steps are among the events
abbrev pub steps_in : List Event → ℕ
steps_in [] = 0
steps_in (step ∷ es) = suc (steps_in es)
steps_in (bytes b ∷ es) = steps_in es

-- bytes come only while the sign is Busy, and none of them are a reset for this MID
abbrev pub Undisturbed : ℕ → List Event → Sign → Type 0
Undisturbed mid [] s = Unit
Undisturbed mid (step ∷ es) s = Undisturbed mid es (step_of s).sign
Undisturbed mid (bytes b ∷ es) s = (s.run.len ≡ 0 → ⊥) × ((read_of mid b ≡ Ok ResetRead → ⊥) × Undisturbed mid es s)

-- none of the bytes among the events are a reset for this MID
abbrev pub Quiet : ℕ → List Event → Type 0
Quiet mid [] = Unit
Quiet mid (step ∷ es) = Quiet mid es
Quiet mid (bytes b ∷ es) = (read_of mid b ≡ Ok ResetRead → ⊥) × Quiet mid es
