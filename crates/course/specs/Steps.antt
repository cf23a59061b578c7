-- A running program stepped by places and counts, over any reader of commands and any length.
-- Rules S1 and S6 to S10 for the place and the loop, S11 for the end, S12 for Idle, S13 for the settings.
use Rattle.std.specs.Prelude.{ℕ, zero, suc, ◌+◌, List, [], ◌∷◌, ltb}
use Rattle.basis.specs.Choice.{when}
use Rattle.program.specs.declared.Kind.TheVariants.{L, E, F, R}
use Rattle.measure.specs.Width.{widths_of}
use Rattle.perform.specs.Price.{answer_of}
use Rattle.perform.specs.Settings.{behind_of}
use Rattle.perform.specs.declared.settings.Settings.{Settings}
use Rattle.perform.specs.declared.price.Performed.{Performed}
use Rattle.loops.specs.Token.{Act, Part, act, rep, close, forever, again, Tok, good, bad}

-- an open loop: the place behind its `L`, and the count left
pub data Frame : Type 0 where
  frame : (place left : ℕ) → Frame

-- Ready; or Busy at a place, within these open loops, innermost first
pub data State : Type 0 where
  ready : Settings → State
  at : ℕ → List Frame → Settings → State

-- Busy at a place within the body, Ready behind the last command
unfoldable pub settle : (len place : ℕ) → List Frame → Settings → State
settle len p fs σ = when (ltb p len) (at p fs σ) (ready σ)

-- what a command answers; `L`, `E`, `F` and `R` have no text and cost nothing
abbrev pub says_of : Part → Settings → Performed
says_of (act a) σ = answer_of a.kind a.number a.text a.len a.widths σ
says_of (rep n z) σ = answer_of L n 0 0 (widths_of []) σ
says_of close σ = answer_of E 0 0 0 (widths_of []) σ
says_of forever σ = answer_of F 0 0 0 (widths_of []) σ
says_of again σ = answer_of R 0 0 0 (widths_of []) σ

-- the settings behind a command
abbrev pub sets_of : Act → Settings → Settings
sets_of a σ = behind_of a.kind a.number σ

-- `E`: with more than 1 left back behind the `L` with one less, else on
abbrev pub closed : (len place : ℕ) → List Frame → Settings → State
closed len p [] σ = settle len (p + 2) [] σ
closed len p (frame q zero ∷ fs) σ = settle len (p + 2) fs σ
closed len p (frame q (suc zero) ∷ fs) σ = settle len (p + 2) fs σ
closed len p (frame q (suc (suc k)) ∷ fs) σ = settle len q (frame q (suc k) ∷ fs) σ

-- `F`: back behind its `L`, and the count stays
abbrev pub returned : (len place : ℕ) → List Frame → Settings → State
returned len p [] σ = settle len (p + 2) [] σ
returned len p (frame q k ∷ fs) σ = settle len q (frame q k ∷ fs) σ

-- the state behind a command
abbrev pub goes_of : (len : ℕ) → Part → (place : ℕ) → List Frame → Settings → State
goes_of len (act a) p fs σ = settle len (p + a.size) fs (sets_of a σ)
goes_of len (rep n z) p fs σ = settle len (p + z) (frame (p + z) n ∷ fs) σ
goes_of len close p fs σ = closed len p fs σ
goes_of len forever p fs σ = returned len p fs σ
goes_of len again p fs σ = settle len 0 fs σ

-- what a step answers: a command performed, or Idle
pub data Said : Type 0 where
  did : Performed → Said
  idle : Said

-- where no command stands, nothing moves: no accepted program comes to such a place
abbrev pub went_at : (len : ℕ) → Tok → (place : ℕ) → List Frame → Settings → State
went_at len (good c) p fs σ = goes_of len c p fs σ
went_at len (bad w) p fs σ = at p fs σ

abbrev pub said_at : Tok → Settings → Said
said_at (good c) σ = did (says_of c σ)
said_at (bad w) σ = idle

-- one step: the next state, and the answer
abbrev pub next_of : (ℕ → Tok) → (len : ℕ) → State → State
next_of g len (ready σ) = ready σ
next_of g len (at p fs σ) = went_at len (g p) p fs σ

abbrev pub said_of : (ℕ → Tok) → State → Said
said_of g (ready σ) = idle
said_of g (at p fs σ) = said_at (g p) σ

-- so many steps: the state behind them, and their answers
abbrev pub after_of : (ℕ → Tok) → (len steps : ℕ) → State → State
after_of g len zero s = s
after_of g len (suc k) s = after_of g len k (next_of g len s)

abbrev pub answers_of : (ℕ → Tok) → (len steps : ℕ) → State → List Said
answers_of g len zero s = []
answers_of g len (suc k) s = said_of g s ∷ answers_of g len k (next_of g len s)

-- Busy is not Ready
abbrev pub Busy : State → Type 0
Busy (ready σ) = ⊥
Busy (at p fs σ) = Unit

-- a program just started: at its first command, within no loop
abbrev pub started : (len : ℕ) → Settings → State
started len σ = settle len 0 [] σ
