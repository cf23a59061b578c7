-- A program as a tree of commands and loops, built from its commands, and what it unrolls to.
-- Rules S22 and S23: a plain command once; a loop as `L`, then n times its commands and `E`. Endless: L28, S9 and S10.
use Rattle.std.specs.Prelude.{ℕ, zero, suc, List, [], ◌∷◌, ◌++◌}
use Rattle.perform.specs.declared.settings.Settings.{Settings}
use Rattle.perform.specs.declared.price.Performed.{Performed}
use Rattle.loops.specs.Token.{Act, Part, act, rep, close, forever, again, Tok, good, bad, tokens_of}
use Rattle.course.specs.Steps.{says_of, sets_of}

-- commands and loops in a row; a loop has a number and the size of its `L`
pub data Block : Type 0 where
  stop : Block
  one : Act → Block → Block
  loop : (n z : ℕ) → Block → Block → Block

-- how a program ends: behind its last command; by an `R`; or by a loop for ever
pub data Ending : Type 0 where
  ends : Ending
  starts : Ending
  ever : (n z : ℕ) → Block → Ending

pub record Tree : Type 0 where
  pub block : Block
  pub ending : Ending

-- a loop that is closed while its `L` is still to come: what stands behind its `E`, or that an `F` closed it
pub data Pending : Type 0 where
  behind : Block → Pending
  endless : Pending

-- what is built of the commands from a place on
pub record Built : Type 0 where
  pub block : Block
  pub pending : List Pending
  pub ending : Ending

abbrev pub opened : (n z : ℕ) → Block → List Pending → Ending → Built
opened n z b [] e = record { block = loop n z b stop; pending = []; ending = e }
opened n z b (behind r ∷ s) e = record { block = loop n z b r; pending = s; ending = e }
opened n z b (endless ∷ s) e = record { block = stop; pending = s; ending = ever n z b }

-- one command in front of what is built
abbrev pub built : Part → Built → Built
built (act a) t = record { block = one a t.block; pending = t.pending; ending = t.ending }
built (rep n z) t = opened n z t.block t.pending t.ending
built close t = record { block = stop; pending = behind t.block ∷ t.pending; ending = t.ending }
built forever t = record { block = stop; pending = endless ∷ []; ending = ends }
built again t = record { block = stop; pending = []; ending = starts }

abbrev pub built_tok : Tok → Built → Built
built_tok (good c) t = built c t
built_tok (bad w) t = t

-- the tree of a body's commands, from the last to the first
abbrev pub build_of : List Tok → Built
build_of [] = record { block = stop; pending = []; ending = ends }
build_of (t ∷ ts) = built_tok t (build_of ts)

abbrev pub tree_of : List Tok → Tree
tree_of ts = record { block = (build_of ts).block; ending = (build_of ts).ending }

-- the tree of a body
abbrev pub tree_in : List ℕ → Tree
tree_in b = tree_of (tokens_of b 0)

-- n times
abbrev pub times : {A : Type 0} → ℕ → (A → A) → A → A
times zero f x = x
times (suc n) f x = times n f (f x)

-- the settings behind a block
abbrev pub exit_of : Block → Settings → Settings
exit_of stop σ = σ
exit_of (one a b) σ = exit_of b (sets_of a σ)
exit_of (loop n z body b) σ = exit_of b (times n (exit_of body) σ)

-- n passes of a loop, each what its commands perform and then `E`
abbrev pub passes : ℕ → (Settings → List Performed) → (Settings → Settings) → Settings → List Performed
passes zero does exit σ = []
passes (suc n) does exit σ = does σ ++ (says_of close (exit σ) ∷ passes n does exit (exit σ))

-- what a block performs, in its order, each command at the settings before it
abbrev pub unrolled : Block → Settings → List Performed
unrolled stop σ = []
unrolled (one a b) σ = says_of (act a) σ ∷ unrolled b (sets_of a σ)
unrolled (loop n z body b) σ =
    says_of (rep n z) σ ∷ (passes n (unrolled body) (exit_of body) σ ++ unrolled b (times n (exit_of body) σ))

-- so many rounds of a block, each from the settings that the round before left, and each ended by the command that goes back
abbrev pub rounds : ℕ → Part → Block → Settings → List Performed
rounds zero back t σ = []
rounds (suc m) back t σ = unrolled t σ ++ (says_of back (exit_of t σ) ∷ rounds m back t (exit_of t σ))

-- what an endless program performs in so many rounds: by `R` all of it again and again; by `F` what stands before its loop and the `L`
-- once, then what follows the `L`, up to and with the `F`, again and again
abbrev pub ended_by : Ending → ℕ → Block → Settings → List Performed
ended_by ends m t σ = unrolled t σ
ended_by starts m t σ = rounds m again t σ
ended_by (ever n z body) m t σ = unrolled t σ ++ (says_of (rep n z) (exit_of t σ) ∷ rounds m forever body (exit_of t σ))

abbrev pub endlessly : ℕ → Tree → Settings → List Performed
endlessly m t σ = ended_by t.ending m t.block σ

-- the commands of a block in front of others
abbrev pub flat : Block → List Part → List Part
flat stop k = k
flat (one a b) k = act a ∷ flat b k
flat (loop n z body b) k = rep n z ∷ flat body (close ∷ flat b k)

-- the commands of an ending
abbrev pub flat_end : Ending → List Part
flat_end ends = []
flat_end starts = again ∷ []
flat_end (ever n z body) = rep n z ∷ flat body (forever ∷ [])

-- all commands of a program
abbrev pub parts_of : Tree → List Part
parts_of t = flat t.block (flat_end t.ending)
