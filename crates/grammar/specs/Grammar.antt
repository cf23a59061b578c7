-- The programs, as a grammar: what a body must be to be accepted, with no word of how it is judged.
-- Rules L1 and L2 for the body and its commands, L25 to L27 for loops and endings, L28 for endless, L29 for accepted.
use Rattle.std.specs.Prelude.{ℕ, ◌+◌, ◌≤◌, ◌≡◌, List, [], ◌∷◌, Bool, true, false, length, Ok}
use Rattle.loops.specs.Token.{Act, Part, act, rep, close, forever, again, good, size_of, get}
use Rattle.judge.specs.Verdict.{Verdict}
use Rattle.judge.specs.declared.Ending.TheVariants.{Finite, Endless}

-- from a place to the end the body is these commands, each directly behind the one before
pub data Tiled (b : List ℕ) : ℕ → List Part → Type 0 where
  done : {p : ℕ} → p ≡ length b → Tiled b p []
  more : {p : ℕ} {c : Part} {cs : List Part} → get b p ≡ good c → Tiled b (p + size_of c) cs → Tiled b p (c ∷ cs)

-- acts in front of commands
abbrev pub acts : List Act → List Part → List Part
acts [] cs = cs
acts (a ∷ ys) cs = act a ∷ acts ys cs

-- the commands of a program, and whether it is endless: acts and loops of acts in any order, and then nothing, an `R`, or a loop
-- for ever
pub data Program : List Part → Bool → Type 0 where
  ends : Program [] false
  over : Program (again ∷ []) true
  ever : {n z : ℕ} (ys : List Act) → Program (rep n z ∷ acts ys (forever ∷ [])) true
  one : {a : Act} {cs : List Part} {e : Bool} → Program cs e → Program (act a ∷ cs) e
  loop : {n z : ℕ} {cs : List Part} {e : Bool} (ys : List Act) → Program cs e → Program (rep n z ∷ acts ys (close ∷ cs)) e

-- a body that is a program
pub record Described (b : List ℕ) (e : Bool) : Type 0 where
  pub some : 1 ≤ length b
  pub most : length b ≤ 84
  pub commands : List Part
  pub tiled : Tiled b 0 commands
  pub program : Program commands e

abbrev pub accepted_as : Bool → Verdict
accepted_as true = Ok Endless
accepted_as false = Ok Finite
