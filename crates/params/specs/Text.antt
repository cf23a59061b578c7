-- What a text may hold (L4 to L6), and how it is refused: N24 at the byte, N25 at the tilde.
use Rattle.std.specs.Prelude.{ℕ, ◌+◌, List, [], ◌∷◌, Bool, eqb, get_or, Result, Ok, Err}
use Rattle.basis.specs.Choice.{when, ◌and◌, ◌or◌}
use Rattle.params.specs.Bytes.{caret, first_of, read_to}
use Rattle.params.specs.Kinds.{Plain, Tilde, Column, kind_is}
use Rattle.params.specs.declared.Parameter.{Parameter}
use Rattle.refusal.specs.Refusal.{fault}
use Rattle.refusal.specs.declared.Fault.{Fault}

-- one of `B b C c D d G`
abbrev pub is_letter : ℕ → Bool
is_letter x = eqb x 0x42 or eqb x 0x62 or eqb x 0x43 or eqb x 0x63 or eqb x 0x44 or eqb x 0x64 or eqb x 0x47

-- directly after `~G` or after another column, `before` and `last` being the two bytes in front
abbrev pub may_run : ℕ → ℕ → Bool
may_run before last = kind_is Column last or (kind_is Tilde before and eqb last 0x47)

-- what is wrong with the byte x, the bytes before and last in front of it and the byte next after it: 0 where nothing is
abbrev pub wrong_of : ℕ → ℕ → ℕ → ℕ → ℕ
wrong_of before last x next =
    when (kind_is Plain x) 0
    (when (kind_is Tilde x) (when (is_letter next) 0 25)
    (when (kind_is Column x and may_run before last) 0 24))

-- a text whose bytes stand from `at` on: the place after it, or the first byte at fault
abbrev pub text_of : (before last at : ℕ) → List ℕ → Result Parameter Fault
text_of before last at [] = Ok (read_to at 0)
text_of before last at (x ∷ xs) =
    when (eqb (wrong_of before last x (first_of xs)) 0)
    (text_of last x (at + 1) xs)
    (Err (fault (wrong_of before last x (first_of xs)) at))

-- what is wrong with the byte at place i of a text, nothing standing in front of the first
abbrev pub wrong_at : List ℕ → ℕ → ℕ
wrong_at ds i = wrong_of (get_or (0 ∷ 0 ∷ ds) i 0) (get_or (0 ∷ ds) i 0) (get_or ds i 0) (get_or ds (i + 1) caret)
