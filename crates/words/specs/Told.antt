-- How an answer is told: its values as words at the front of a lent buffer, or 252 (N252), and the call's result. The
-- values are `told_of` of the answer's own crate (P13).
use Rattle.std.specs.Prelude.{ℕ, List, [], ◌∷◌, ltb, length, get_or, Result}
use Rattle.basis.specs.Bytes.{laid}
use Rattle.basis.specs.Choice.{when}
use Rattle.basis.specs.Rows.{Row, ◌if◌}
use Rattle.judge.specs.Verdict.{Verdict, told_of as verdict_told}
use Rattle.refusal.specs.declared.Fault.{Fault}
use Rattle.reckon.specs.Forecast.{told_of as forecast_told}
use Rattle.reckon.specs.declared.reckon.Foretold.{Foretold}
use Rattle.words.specs.Words.{result_of}

-- 252: an answer shorter than what is to be told
abbrev pub answer_row : ℕ → List ℕ → Row
answer_row size answer = 252 if ltb (length answer) size

-- the number of the first row whose test holds, otherwise n
abbrev pub first_or : List Row → ℕ → ℕ
first_or [] n = n
first_or (m if b ∷ rows) n = when b m (first_or rows n)

-- an answer with these bytes at its front, where it has room for the call's answer
abbrev pub told_in : (size : ℕ) → (bytes answer : List ℕ) → List ℕ
told_in size bytes answer = when (ltb (length answer) size) answer (laid bytes answer)

-- judging a body: the number for no, and the first value, or the place where there is none
abbrev pub judged_of : Verdict → ℕ
judged_of v = let t = verdict_told v in result_of t.number (get_or t.values 0 t.place)

-- forecasting: the number for no, and its place
abbrev pub foretold_result : Result Foretold Fault → ℕ
foretold_result f = result_of (forecast_told f).number (forecast_told f).place
