-- A whole body judged (L29), endless or not (L28). The order is that of N0: N28, N21, the commands, and last an `L`
-- that is not closed (N26).
use Rattle.std.specs.Prelude.{ℕ, List, [], ◌∷◌, Bool, true, false, eqb, ltb, length, get_or, Result, Ok, Err}
use Rattle.basis.specs.Choice.{when}
use Rattle.basis.specs.Told.{Told}
use Rattle.params.specs.Bytes.{caret}
use Rattle.loops.specs.Token.{Tok, tokens_of}
use Rattle.loops.specs.Structure.{Move, stop, go, move_of}
use Rattle.loops.specs.declared.Open.{Open}
use Rattle.judge.specs.declared.Ending.{Ending}
use Rattle.judge.specs.declared.Ending.TheVariants.{Finite, Endless}
use Rattle.refusal.specs.Refusal.{fault, told_at}
use Rattle.refusal.specs.declared.Fault.{Fault}

-- a body judged: how it goes, or why it is refused and where
abbrev pub Verdict : Type 0
Verdict = Result Ending Fault

-- at the end: an unclosed loop is 26 at its `L`; otherwise accepted
abbrev pub end_of : Bool → List Open → Verdict
end_of true [] = Ok Endless
end_of false [] = Ok Finite
end_of e (l ∷ o) = Err (fault 26 l.caret)

abbrev pub judged : Move → (ℕ → ℕ → Bool → List Open → Verdict) → Verdict
judged (stop w) rest = Err w
judged (go next m e o) rest = rest next m e o

-- the commands from a place on, judged from the left; `room` loops may still be opened
abbrev pub judge : List Tok → (room place : ℕ) → (ended : Bool) → List Open → Verdict
judge [] m p e o = end_of e o
judge (t ∷ ts) m p e o = judged (move_of t m p e o) (λ next m' e' o'. judge ts m' next e' o')

-- a body's commands; loops don't nest, so one may be open
abbrev pub commands_of : List ℕ → Verdict
commands_of b = judge (tokens_of b 0) 1 0 false []

-- the commands of a body can be judged
abbrev pub begun : Result Unit Fault
begun = Ok tt

-- what comes before any command: 28, then 21
abbrev pub front_of : List ℕ → Result Unit Fault
front_of b = when (ltb 84 (length b)) (Err (fault 28 84)) (when (eqb (get_or b 0 0) caret) begun (Err (fault 21 0)))

-- a body
unfoldable pub judge_of : List ℕ → Verdict
judge_of b =
    when (ltb 84 (length b)) (Err (fault 28 84))
    (when (eqb (get_or b 0 0) caret) (commands_of b) (Err (fault 21 0)))

-- 1 for an endless program, 0 for one that ends
abbrev pub values_of : Ending → List ℕ
values_of Finite = 0 ∷ []
values_of Endless = 1 ∷ []

-- the verdict in the rules' numbers: how the program goes, or the refusal's number and place
abbrev pub told_of : Verdict → Told
told_of = told_at values_of
