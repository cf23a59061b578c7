-- How the code holds where judging stands: at most one loop is open (L25), so three cases carry room, end and loops.
use Rattle.std.specs.Prelude.{ℕ, List, [], ◌∷◌, Bool, true, false, Result, Ok, Err, Option, Some, None}
use Rattle.basis.specs.Choice.{when}
use Rattle.program.specs.declared.Command.{Command}
use Rattle.loops.specs.Token.{role_of}
use Rattle.loops.specs.Structure.{Structure, broken, kept, structure_of, Move, stop, go, moved}
use Rattle.loops.specs.declared.Open.{Open}
use Rattle.loops.specs.declared.Flow.{Flow}
use Rattle.loops.specs.declared.Flow.TheVariants.{Free, Within, Ended}
use Rattle.loops.specs.declared.Turn.{Turn}
use Rattle.refusal.specs.declared.Fault.{Fault}
use Rattle.refusal.specs.Refusal.{fault}

abbrev pub room_of : Flow → ℕ
room_of Free = 1
room_of (Within l) = 0
room_of Ended = 1

abbrev pub ended_of : Flow → Bool
ended_of Free = false
ended_of (Within l) = false
ended_of Ended = true

abbrev pub opens_of : Flow → List Open
opens_of Free = []
opens_of (Within l) = l ∷ []
opens_of Ended = []

-- the case that an end and open loops make
abbrev pub flow_of : Bool → List Open → Flow
flow_of true o = Ended
flow_of false [] = Free
flow_of false (l ∷ o) = Within l

abbrev pub rule_of : Structure → Option Flow
rule_of broken = None
rule_of (kept m e o) = Some (flow_of e o)

-- the place behind a command, and how judging goes on there
abbrev pub go_on : ℕ → Flow → Turn
go_on place f = record { next = place; flow = f }

abbrev pub turn_of : Move → Result Turn Fault
turn_of (stop w) = Err w
turn_of (go place m e o) = Ok (go_on place (flow_of e o))

-- the loop that a command at a place would open
abbrev pub here_of : ℕ → Command → Open
here_of p c = record { caret = p; behind = c.next; number = c.number }

-- what reading says, and then the rule of loops
abbrev pub heard_of : Result Command Fault → ℕ → Flow → Result Turn Fault
heard_of (Err w) p f = Err w
heard_of (Ok c) p f = turn_of (moved p c.next (structure_of (role_of c.kind) (room_of f) (here_of p c) (opens_of f)))

-- what was read at a place: 27 comes first
abbrev pub turned_of : Result Command Fault → ℕ → Flow → Result Turn Fault
turned_of r p f = when (ended_of f) (Err (fault 27 p)) (heard_of r p f)
