-- A choice by a Bool at any type, `and`, `or` and the test of a range: lists of decisions in order (N0, J3) use them.
-- Each matches on its first argument, so that a test whose value is known computes away.
use Rattle.std.specs.Prelude.{ℕ, Bool, true, false, leb}

infixr 6 ◌and◌
infixr 5 ◌or◌
-- the first where the test holds, otherwise the second
abbrev pub when : {A : Type 0} → Bool → A → A → A
when true a b = a
when false a b = b

abbrev pub ◌and◌ : Bool → Bool → Bool
◌and◌ true b = b
◌and◌ false b = false

abbrev pub ◌or◌ : Bool → Bool → Bool
◌or◌ true b = true
◌or◌ false b = b

-- from least to greatest, both included
abbrev pub within : (least n greatest : ℕ) → Bool
within least n greatest = leb least n and leb n greatest
