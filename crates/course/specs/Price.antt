-- What a block costs, by any measure of a performed command, with each loop's commands read twice at most: from the
-- second pass on, a pass begins at the settings that the one before left, so all later passes cost the same.
-- Rules S21, S23 and S27.
use Rattle.std.specs.Prelude.{ℕ, zero, suc, ◌+◌, ◌*◌, List, [], ◌∷◌}
use Rattle.perform.specs.declared.settings.Settings.{Settings}
use Rattle.perform.specs.declared.price.Performed.{Performed}
use Rattle.loops.specs.Token.{act, rep, close}
use Rattle.course.specs.Steps.{says_of, sets_of}
use Rattle.course.specs.Tree.{Block, stop, one, loop}

-- the sum of a measure over performed commands
abbrev pub sum_by : (Performed → ℕ) → List Performed → ℕ
sum_by f [] = 0
sum_by f (x ∷ xs) = f x + sum_by f xs

-- each command counts 1
abbrev pub ones : Performed → ℕ
ones x = 1

abbrev pub scans : Performed → ℕ
scans x = x.scans.0

abbrev pub millis : Performed → ℕ
millis x = x.millis.0

-- the first of n passes, and each later one
abbrev pub first_then : ℕ → ℕ → ℕ → ℕ
first_then zero a b = 0
first_then (suc n) a b = a + n * b

-- the settings behind a block, a loop's commands read once
abbrev pub leaves_of : Block → Settings → Settings
leaves_of stop σ = σ
leaves_of (one a b) σ = leaves_of b (sets_of a σ)
leaves_of (loop n z body b) σ = leaves_of b (leaves_of body σ)

abbrev pub price_of : (Performed → ℕ) → Block → Settings → ℕ
price_of f stop σ = 0
price_of f (one a b) σ = f (says_of (act a) σ) + price_of f b (sets_of a σ)
price_of f (loop n z body b) σ =
    f (says_of (rep n z) σ)
    + (first_then n (price_of f body σ + f (says_of close σ)) (price_of f body (leaves_of body σ) + f (says_of close σ))
    + price_of f b (leaves_of body σ))
