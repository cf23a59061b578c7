-- Where a place stands in a body: what a sound record's place (R7) and loop place (R8) are held to.
use Rattle.std.specs.Prelude.{ℕ, List, [], ◌∷◌, Bool, false, eqb, Result, Ok, Err, Option, Some, None}
use Rattle.basis.specs.Choice.{when}
use Rattle.program.specs.Command.{read_of}
use Rattle.loops.specs.Token.{Tok, tokens_of}
use Rattle.loops.specs.Structure.{Move, stop, go, move_of}
use Rattle.judge.specs.Verdict.{Verdict, judge_of}
use Rattle.loops.specs.declared.Open.{Open}
use Rattle.judge.specs.declared.Standing.{Standing}
use Rattle.judge.specs.declared.Standing.TheVariants.{Outside, Inside}
use Rattle.judge.specs.declared.Walked.{Walked}
use Rattle.judge.specs.declared.Found.{Found}
use Rattle.program.specs.declared.Command.{Command}
use Rattle.refusal.specs.declared.Fault.{Fault}

-- in the innermost open loop, or outside
abbrev pub inside_of : List Open → Standing
inside_of [] = Outside
inside_of (l ∷ o) = Inside l.behind l.number

-- where the rest is looked through, if judging goes on
abbrev pub stood : Move → (ℕ → ℕ → Bool → List Open → Option Standing) → Option Standing
stood (stop w) rest = None
stood (go next m e o) rest = rest next m e o

-- the place q among the commands from place p on
abbrev pub stand_at : ℕ → List Tok → (room place : ℕ) → (ended : Bool) → List Open → Option Standing
stand_at q [] m p e o = None
stand_at q (t ∷ ts) m p e o =
    when (eqb p q) (Some (inside_of o))
    (stood (move_of t m p e o) (λ next m' e' o'. stand_at q ts m' next e' o'))

-- what is found in an accepted body; a refused one has no place
abbrev pub of_accepted : {A : Type 0} → Verdict → Option A → Option A
of_accepted (Ok e) s = s
of_accepted (Err w) s = None

-- a verdict, and the place that is looked for on the way, which a refused body does not have
abbrev pub walked_of : Verdict → Option Found → Result Walked Fault
walked_of (Ok e) f = Ok (record { ending = e; found = f })
walked_of (Err w) f = Err w

-- the place q of the body b
unfoldable pub stand_of : List ℕ → ℕ → Option Standing
stand_of b q = of_accepted (judge_of b) (stand_at q (tokens_of b 0) 1 0 false [])

-- a standing with the command that is read there; at a command of an accepted body the reading is always good
abbrev pub with_read : Standing → Result Command Fault → Option Found
with_read s (Ok c) = Some (record { standing = s; command = c })
with_read s (Err w) = None

-- the same, if the place stands anywhere
abbrev pub placed_of : Option Standing → Result Command Fault → Option Found
placed_of None r = None
placed_of (Some s) r = with_read s r

-- the place q of the body b with the command that stands there
abbrev pub found_of : List ℕ → ℕ → Option Found
found_of b q = placed_of (stand_of b q) (read_of b q)
