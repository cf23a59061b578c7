-- One command at a place of a body, or its refusal: a grammar over what is left of the body from that place on.
-- Rules L2 and L3 for the command and its parameter, S3 and S4 for its values, N22 to N25 for refusals and their place.
use Rattle.std.specs.Prelude.{ℕ, ◌+◌, ◌-◌, List, [], ◌∷◌, drop, Option, None, Some, Result, Ok, Err}
use Rattle.params.specs.Bytes.{param_of, read_to}
use Rattle.params.specs.Text.{text_of}
use Rattle.params.specs.Number.{number_of}
use Rattle.program.specs.Table.{table, row_at}
use Rattle.program.specs.declared.Kind.{Kind}
use Rattle.program.specs.declared.Form.{Form}
use Rattle.program.specs.declared.Form.TheVariants.{Text, Bare, Number}
use Rattle.program.specs.declared.Row.{Row}
use Rattle.program.specs.declared.Command.{Command}
use Rattle.params.specs.declared.Parameter.{Parameter}
use Rattle.refusal.specs.Refusal.{fault}
use Rattle.refusal.specs.declared.Fault.{Fault}

-- behind a command without parameter nothing stands; a byte there is 24 at that byte
abbrev pub bare_of : ℕ → List ℕ → Result Parameter Fault
bare_of at [] = Ok (read_to at 0)
bare_of at (x ∷ xs) = Err (fault 24 at)

-- a parameter whose bytes stand from `at` on, by the command's form
abbrev pub parameter_of : Form → (place at : ℕ) → List ℕ → Result Parameter Fault
parameter_of Text place at ds = text_of 0 0 at ds
parameter_of Bare place at ds = bare_of at ds
parameter_of (Number n) place at ds = number_of n.least n.greatest n.digits place at ds

-- the command of a kind whose parameter stands from `at` on; what it lacks is 0
abbrev pub command_of : Kind → Form → ℕ → Parameter → Command
command_of k Text at r = record { next = r.next; number = r.number; text = at; len = r.next - at; kind = k }
command_of k Bare at r = record { next = r.next; number = r.number; text = 0; len = 0; kind = k }
command_of k (Number n) at r = record { next = r.next; number = r.number; text = 0; len = 0; kind = k }

-- the same, or what is wrong with its parameter
abbrev pub made_of : Kind → Form → ℕ → Result Parameter Fault → Result Command Fault
made_of k f at (Ok r) = Ok (command_of k f at r)
made_of k f at (Err e) = Err e

-- the command of a row, the caret at a place of the body
abbrev pub row_of : List ℕ → ℕ → Option Row → Result Command Fault
row_of b p None = Err (fault 22 p)
row_of b p (Some r) =
    made_of r.kind r.form (p + r.letters) (parameter_of r.form p (p + r.letters) (param_of (drop (p + r.letters) b)))

-- what stands at a place of a body
unfoldable pub read_of : List ℕ → ℕ → Result Command Fault
read_of b p = row_of b p (row_at table (drop p b))
