-- How numbers stand in a lent answer and in a call's result.
use Rattle.std.specs.Prelude.{ℕ, ◌+◌, ◌*◌, ◌/◌, ◌%◌, List, [], ◌∷◌, ◌++◌, get_or, Result}
use Rattle.basis.specs.Told.{Told}
use Rattle.packet.specs.Write.{told_of}
use Rattle.refusal.specs.declared.Refusal.{Refusal}

-- a word is four bytes, lowest first
abbrev pub word_of : ℕ → List ℕ
word_of x = x % 256 ∷ x / 256 % 256 ∷ x / 65536 % 256 ∷ x / 16777216 % 256 ∷ []

-- words in a row
unfoldable pub words_of : List ℕ → List ℕ
words_of [] = []
words_of (x ∷ xs) = word_of x ++ words_of xs

-- a result: the number for no in the low byte, 0 for yes, and a value of 24 bits above it
abbrev pub result_of : (number value : ℕ) → ℕ
result_of number value = number + 256 * (value % 16777216)

-- a writer's result: the number for no, and the length written
abbrev pub length_told : Told → ℕ
length_told t = result_of t.number (get_or t.values 0 0)

abbrev pub wrote_of : Result ℕ Refusal → ℕ
wrote_of w = length_told (told_of w)
