-- Room that is not used, and a room that holds a body: rule R5.
use Rattle.std.specs.Prelude.{ℕ, Bool, true, List, [], ◌∷◌, eqb, replicate}
use Rattle.basis.specs.Bytes.{laid}
use Rattle.basis.specs.Choice.{◌and◌}

-- all are 0
abbrev pub zeros_of : List ℕ → Bool
zeros_of [] = true
zeros_of (x ∷ xs) = eqb x 0 and zeros_of xs

-- a room of 84 bytes that holds this body, and zeros after it
unfoldable pub room_of : List ℕ → List ℕ
room_of body = laid body (replicate 84 0)
