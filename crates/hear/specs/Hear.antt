-- Bytes off the line, in the order of J3: 16, the reader's 19 and 1 to 11, query (J13), reset (J14), then a normal packet.
use Rattle.std.specs.Prelude.{ℕ, List, [], ◌∷◌, take, drop, Result, Ok, Err}
use Rattle.basis.specs.Choice.{when}
use Rattle.basis.specs.Told.{Told}
use Rattle.refusal.specs.Refusal.{told_by}
use Rattle.refusal.specs.declared.Refusal.{Refusal}
use Rattle.refusal.specs.declared.Refusal.TheVariants.{Unsound}
use Rattle.judge.specs.Verdict.{told_of as verdict_told}
use Rattle.reader.specs.Read.{read_of}
use Rattle.reader.specs.declared.read.Packet.{Packet}
use Rattle.reader.specs.declared.read.Packet.TheVariants.{Query as QueryRead, Reset as ResetRead, Normal}
use Rattle.completed.specs.declared.Completed.{Completed}
use Rattle.collect.specs.Slots.{Collection}
use Rattle.hear.specs.Frame.{framed_by}
use Rattle.hear.specs.Join.{Left, join_by, stay_of, reset_left, count_of}
use Rattle.hear.specs.declared.Outcome.{Outcome}
use Rattle.hear.specs.declared.Outcome.TheVariants.{Query, Reset, Repeat, Stored, Released}

-- what was read decides; the data of a normal packet stand at bytes 5 to 5 + len
abbrev pub read_by : {A : Type 0} → (stays : Result Outcome Refusal → A) → (reset : A) → (joined : ℕ → ℕ → ℕ → List ℕ → A) → List ℕ → Result Packet Refusal → A
read_by stays reset joined b (Ok QueryRead) = stays (Ok Query)
read_by stays reset joined b (Ok ResetRead) = reset
read_by stays reset joined b (Ok (Normal id total position len)) = joined id total position (take len (drop 5 b))
read_by stays reset joined b (Err e) = stays (Err e)

-- what was read, where the frame is sound
abbrev pub heard_of : Completed → Collection → ℕ → List ℕ → Result Packet Refusal → Left
heard_of completed c len b read = read_by (stay_of completed c) reset_left (join_by (stay_of completed c) (count_of completed) completed c len) b read

unfoldable pub hear_of : Completed → Collection → ℕ → ℕ → List ℕ → Left
hear_of completed c len mid b = when (framed_by completed c len) (heard_of completed c len b (read_of mid b)) (stay_of completed c (Err Unsound))

-- the outcome in the rules' numbers: which of the five it is, and for Released the refusal of its program and its place
-- (J12), 0 where it is accepted
abbrev pub values_of : Outcome → List ℕ
values_of Query = 1 ∷ 0 ∷ 0 ∷ []
values_of Reset = 2 ∷ 0 ∷ 0 ∷ []
values_of Repeat = 3 ∷ 0 ∷ 0 ∷ []
values_of Stored = 4 ∷ 0 ∷ 0 ∷ []
values_of (Released v len) = 5 ∷ (verdict_told v).number ∷ (verdict_told v).place ∷ []

-- the length of the body that is released, 0 where none is
abbrev pub body_length : Result Outcome Refusal → ℕ
body_length (Ok Query) = 0
body_length (Ok Reset) = 0
body_length (Ok Repeat) = 0
body_length (Ok Stored) = 0
body_length (Ok (Released v len)) = len
body_length (Err e) = 0

abbrev pub told_of : Result Outcome Refusal → Told
told_of = told_by values_of
