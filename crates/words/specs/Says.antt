-- What a receive is told as: its words (J3, J12), and the released body after them (J10).
use Rattle.std.specs.Prelude.{ℕ, List, [], ◌∷◌, ◌++◌, eqb, get_or, Result}
use Rattle.basis.specs.Choice.{when}
use Rattle.refusal.specs.declared.Refusal.{Refusal}
use Rattle.hear.specs.Hear.{told_of, body_length}
use Rattle.hear.specs.declared.Outcome.{Outcome}
use Rattle.words.specs.Words.{words_of}

-- the outcome of a receive as a number, 0 where it is refused
abbrev pub outcome_of : Result Outcome Refusal → ℕ
outcome_of o = get_or (told_of o).values 0 0

-- the program's refusal that a Released names, 0 where the body is accepted, and its place
abbrev pub program_of : Result Outcome Refusal → ℕ
program_of o = get_or (told_of o).values 1 0

abbrev pub place_of : Result Outcome Refusal → ℕ
place_of o = get_or (told_of o).values 2 0

-- a receive: outcome, the released program's refusal and its place, the body's length, and the body; nothing where it is refused
abbrev pub received_bytes : Result Outcome Refusal → (body : List ℕ) → List ℕ
received_bytes o body = when (eqb (outcome_of o) 0) [] (words_of (outcome_of o ∷ program_of o ∷ place_of o ∷ body_length o ∷ []) ++ body)
