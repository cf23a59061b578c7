-- The pieces in which the code passes a text. Only private contracts and their proofs need this; what a text means stands in Text.
use Rattle.std.specs.Prelude.{ℕ, zero, suc, ◌+◌, Option, None, Some, List, [], ◌∷◌, eqb, get_or, drop}
use Rattle.basis.specs.Choice.{when}
use Rattle.params.specs.Bytes.{caret}
use Rattle.params.specs.Kinds.{Tilde, Column, kind_is}
use Rattle.params.specs.Text.{wrong_of}
use Rattle.refusal.specs.Refusal.{refusal_of}
use Rattle.refusal.specs.declared.Refusal.{Refusal}

-- how many columns stand in front
abbrev pub run_length : List ℕ → ℕ
run_length [] = 0
run_length (x ∷ xs) = when (kind_is Column x) (suc (run_length xs)) 0

-- how many bytes the piece at a place has: a pair, with the columns that follow `~G`, or one
abbrev pub piece_of : List ℕ → ℕ → ℕ
piece_of b at =
    when (kind_is Tilde (get_or b at caret))
    (2 + when (eqb (get_or b (at + 1) caret) 0x47) (run_length (drop (at + 2) b)) 0)
    1

-- a number for no by its name, none for 0
abbrev pub named : ℕ → Option Refusal
named zero = None
named (suc n) = Some (refusal_of (suc n))

-- what is wrong with the byte where a piece begins, by name
abbrev pub wrong_here : List ℕ → ℕ → Option Refusal
wrong_here b at = named (wrong_of 0 0 (get_or b at caret) (get_or b (at + 1) caret))
