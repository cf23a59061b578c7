-- The rule of structure, apart from the rules of one command: L25 to L27, with N26 and N27.
use Rattle.std.specs.Prelude.{ℕ, zero, suc, ◌+◌, List, [], ◌∷◌, Bool, true, false}
use Rattle.loops.specs.Token.{Part, act, rep, close, forever, again, Tok, good, bad, size_of}
use Rattle.loops.specs.declared.Role.{Role}
use Rattle.loops.specs.declared.Role.TheVariants.{Plain, Repeat, Close, Forever, Again}
use Rattle.loops.specs.declared.Open.{Open}
use Rattle.refusal.specs.Refusal.{fault}
use Rattle.refusal.specs.declared.Fault.{Fault}

-- what the rule says of a command: it may not stand there; or how many loops may still be opened, whether the program is
-- ended, and the open loops, innermost first
pub data Structure : Type 0 where
  broken : Structure
  kept : ℕ → Bool → List Open → Structure

-- the rule, `here` being the loop that the command would open
abbrev pub structure_of : Role → (room : ℕ) → Open → List Open → Structure
structure_of Plain m here o = kept m false o
structure_of Repeat zero here o = broken
structure_of Repeat (suc m) here o = kept m false (here ∷ o)
structure_of Close m here [] = broken
structure_of Close m here (l ∷ o) = kept (suc m) false o
structure_of Forever m here [] = broken
structure_of Forever m here (l ∷ o) = kept (suc m) true o
structure_of Again m here [] = kept m true []
structure_of Again m here (l ∷ o) = broken

abbrev pub role_in : Part → Role
role_in (act a) = Plain
role_in (rep n z) = Repeat
role_in close = Close
role_in forever = Forever
role_in again = Again

-- the number of an `L` or of an act; the others have none
abbrev pub number_in : Part → ℕ
number_in (act a) = a.number
number_in (rep n z) = n
number_in close = 0
number_in forever = 0
number_in again = 0

-- the loop that a command at place p would open: the rule looks at it only where the command is an `L`
abbrev pub opened : ℕ → Part → Open
opened p c = record { caret = p; behind = p + size_of c; number = number_in c }

-- one command judged: a refusal with its place; or the place behind it, and as above
pub data Move : Type 0 where
  stop : Fault → Move
  go : ℕ → ℕ → Bool → List Open → Move

abbrev pub moved : (place next : ℕ) → Structure → Move
moved p next broken = stop (fault 26 p)
moved p next (kept m e o) = go next m e o

-- within one command: 27, then what is wrong with the command itself, then the structure
abbrev pub move_of : Tok → (room place : ℕ) → Bool → List Open → Move
move_of t m p true o = stop (fault 27 p)
move_of (bad w) m p false o = stop w
move_of (good c) m p false o = moved p (p + size_of c) (structure_of (role_in c) m (opened p c) o)
