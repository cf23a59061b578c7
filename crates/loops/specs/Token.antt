-- A command as the structure of a program sees it, and the list of a body's commands.
-- Rules L1 and L2 for the list, L13 to L16 for `L`, `E`, `F` and `R`, S3, S4 and S15 for the values of the others.
use Rattle.std.specs.Prelude.{ℕ, zero, suc, ◌+◌, ◌-◌, List, [], ◌∷◌, ltb, length, take, drop, Result, Ok, Err}
use Rattle.basis.specs.Choice.{when}
use Rattle.program.specs.Command.{read_of}
use Rattle.measure.specs.Width.{widths_of}
use Rattle.measure.specs.declared.width.Widths.{Widths}
use Rattle.program.specs.declared.Kind.{Kind}
use Rattle.program.specs.declared.Kind.TheVariants.{II, IA, IB, S, L, E, F, R, XS, XF, P, Scans, W, XD, XB, Y}
use Rattle.program.specs.declared.Command.{Command}
use Rattle.refusal.specs.declared.Fault.{Fault}
use Rattle.loops.specs.declared.Role.{Role}
use Rattle.loops.specs.declared.Role.TheVariants.{Plain, Repeat, Close, Forever, Again}

-- what a command does to the structure: `L` opens a loop, `E` closes it, `F` closes it for ever, `R` goes to the first command
abbrev pub role_of : Kind → Role
role_of II = Plain
role_of IA = Plain
role_of IB = Plain
role_of S = Plain
role_of L = Repeat
role_of E = Close
role_of F = Forever
role_of R = Again
role_of XS = Plain
role_of XF = Plain
role_of P = Plain
role_of Scans = Plain
role_of W = Plain
role_of XD = Plain
role_of XB = Plain
role_of Y = Plain

-- a command that is performed and passed: its bytes, kind, number as written, text place and length, and the text's widths
pub record Act : Type 0 where
  pub size : ℕ
  pub kind : Kind
  pub number : ℕ
  pub text : ℕ
  pub len : ℕ
  pub widths : Widths

-- a command: an act, an `L` of a number and a size, `E`, `F`, `R`
pub data Part : Type 0 where
  act : Act → Part
  rep : ℕ → ℕ → Part
  close : Part
  forever : Part
  again : Part

-- what stands at a place: a good command, or a refusal with its place
pub data Tok : Type 0 where
  good : Part → Tok
  bad : Fault → Tok

-- the bytes of a command; `E`, `F` and `R` are a caret and a letter
abbrev pub size_of : Part → ℕ
size_of (act a) = a.size
size_of (rep n z) = z
size_of close = 2
size_of forever = 2
size_of again = 2

abbrev pub part_of : Role → Act → Part
part_of Plain a = act a
part_of Repeat a = rep a.number a.size
part_of Close a = close
part_of Forever a = forever
part_of Again a = again

-- the act that a command at place p of the body b is
abbrev pub act_of : List ℕ → ℕ → Command → Act
act_of b p c =
    record {
      size = c.next - p;
      kind = c.kind;
      number = c.number;
      text = c.text;
      len = c.len;
      widths = widths_of (take c.len (drop c.text b));
    }

abbrev pub tok_of : List ℕ → ℕ → Result Command Fault → Tok
tok_of b p (Ok c) = good (part_of (role_of c.kind) (act_of b p c))
tok_of b p (Err w) = bad w

-- what stands at place p of the body b
abbrev pub get : List ℕ → ℕ → Tok
get b p = tok_of b p (read_of b p)

-- the commands from a place on, each behind the one before; a bad one is the last
abbrev pub chain : Tok → (ℕ → List Tok) → List Tok
chain (good c) rest = good c ∷ rest (size_of c)
chain (bad w) rest = bad w ∷ []

abbrev pub tokens : (ℕ → Tok) → (len fuel place : ℕ) → List Tok
tokens g len zero p = []
tokens g len (suc k) p = when (ltb p len) (chain (g p) (λ z. tokens g len k (p + z))) []

-- the commands of the body b from a place on; there are never more of them than bytes
abbrev pub tokens_of : List ℕ → ℕ → List Tok
tokens_of b p = tokens (get b) (length b) (length b) p
