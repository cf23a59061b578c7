-- The line that a body shows: the commands that it performs from given settings, in order (S22, S23; endless ones L28).
use Rattle.std.specs.Prelude.{ℕ, List, [], ◌∷◌, Result, Ok, Option, Some}
use Rattle.refusal.specs.declared.Refusal.{Refusal}
use Rattle.perform.specs.declared.settings.Settings.{Settings}
use Rattle.perform.specs.declared.price.Performed.{Performed}
use Rattle.course.specs.Tree.{tree_in, unrolled, endlessly}

-- its commands with each loop unrolled, each performed at the settings before it
abbrev pub line_of : List ℕ → Settings → List Performed
line_of b σ = unrolled (tree_in b).block σ

-- the commands that an endless body performs in its first so many rounds
abbrev pub rounds_of : ℕ → List ℕ → Settings → List Performed
rounds_of m b σ = endlessly m (tree_in b) σ

-- as the answers of steps
abbrev pub performed : List Performed → List (Result (Option Performed) Refusal)
performed [] = []
performed (x ∷ xs) = Ok (Some x) ∷ performed xs
