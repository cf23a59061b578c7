-- What a call answers, in the rules' numbers: one form for every answer (P13), for the promises and the words for C.
use Rattle.std.specs.Prelude.{ℕ, Bool, List, []}
use Rattle.basis.specs.Choice.{when}

-- the number for no, 0 for yes; the place of a refusal, 0 where it has none; and the values, none where it is refused
pub record Told : Type 0 where
  pub number : ℕ
  pub place : ℕ
  pub values : List ℕ

abbrev pub yes : List ℕ → Told
yes values = record { number = 0; place = 0; values = values }

abbrev pub no_at : (number place : ℕ) → Told
no_at number place = record { number = number; place = place; values = [] }

abbrev pub no : ℕ → Told
no number = no_at number 0

-- a yes or no among the values: 1 or 0
abbrev pub flag_of : Bool → ℕ
flag_of b = when b 1 0
