-- Lists of bytes: their sum (W7), being bytes, and what is laid at the front of a lent buffer (W13).
use Rattle.std.specs.Prelude.{ℕ, ◌+◌, ◌<◌, List, [], ◌∷◌, ◌++◌, length, drop}

-- the sum of all, with every carry
unfoldable pub sum : List ℕ → ℕ
sum [] = 0
sum (x ∷ xs) = x + sum xs

-- each of them is a byte
abbrev pub Bytes : List ℕ → Type 0
Bytes [] = Unit
Bytes (x ∷ xs) = (x < 256) × Bytes xs

-- a buffer with p laid at its front: the bytes behind p stay
unfoldable pub laid : List ℕ → List ℕ → List ℕ
laid p out = p ++ drop (length p) out
