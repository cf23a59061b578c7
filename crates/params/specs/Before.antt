-- What a text was until version 1.0.1, kept as it was: C-19 promises that every text keeps its answer, and proofs/Same shows it.
-- Nothing else uses this.
use Rattle.std.specs.Prelude.{ℕ, ◌+◌, List, [], ◌∷◌, Bool, eqb, ltb, leb, Result, Ok, Err}
use Rattle.basis.specs.Choice.{when, ◌and◌, ◌or◌}
use Rattle.params.specs.Bytes.{caret, tilde, first_of, read_to}
use Rattle.params.specs.Text.{is_letter}
use Rattle.params.specs.declared.Parameter.{Parameter}
use Rattle.refusal.specs.Refusal.{fault}
use Rattle.refusal.specs.declared.Fault.{Fault}

-- the four kinds that there were
pub data WasKind : Type 0 where
  was_plain : WasKind
  was_tilde : WasKind
  was_graphic : WasKind
  was_forbidden : WasKind

-- 20h to 7Dh without the caret, 7Eh, 80h to FFh, or none of these
abbrev pub was_kind_of : ℕ → WasKind
was_kind_of x =
    when (ltb x 0x20) was_forbidden
    (when (eqb x caret) was_forbidden
    (when (ltb x 0x7E) was_plain
    (when (eqb x tilde) was_tilde
    (when (eqb x 0x7F) was_forbidden was_graphic))))

-- directly after `~G` or after another graphic byte
abbrev pub was_may_run : ℕ → ℕ → Bool
was_may_run before last = leb 0x80 last or (eqb before tilde and eqb last 0x47)

-- what was wrong with a byte of this kind, by whether it may run on and whether a letter follows
abbrev pub was_wrong_by : WasKind → Bool → Bool → ℕ
was_wrong_by was_plain run letter = 0
was_wrong_by was_tilde run letter = when letter 0 25
was_wrong_by was_graphic run letter = when run 0 24
was_wrong_by was_forbidden run letter = 24

-- what was wrong with the byte x, the bytes before and last in front of it and the byte after it
abbrev pub was_wrong_of : ℕ → ℕ → ℕ → ℕ → ℕ
was_wrong_of before last x next = was_wrong_by (was_kind_of x) (was_may_run before last) (is_letter next)

-- a text whose bytes stand from `at` on: the place after it, or the first byte at fault
abbrev pub was_text_of : (before last at : ℕ) → List ℕ → Result Parameter Fault
was_text_of before last at [] = Ok (read_to at 0)
was_text_of before last at (x ∷ xs) =
    when (eqb (was_wrong_of before last x (first_of xs)) 0)
    (was_text_of last x (at + 1) xs)
    (Err (fault (was_wrong_of before last x (first_of xs)) at))
