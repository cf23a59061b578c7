-- The rule of the table of byte kinds (L4, P15): one test, computed over all 256 entries, and the law that turns it into the rule at each
-- byte. Then which row is asked where the row is none of the first 31.
use Prim.Native.Nat.{ℕ, zero, suc, ◌*◌, ◌/◌, ◌%◌, ◌^◌, ◌≤◌, ◌<◌}
use mathlib.Core.Path.{◌≡◌, refl, ap, ◌∙◌}
use mathlib.Core.Bool.{Bool, true}
use mathlib.Core.Logic.{dite}
use native.Mathlib.Omega.{arith}
use native.Mathlib.Decide.{dec_lt}
use borrow.Author.Tests.{eqb-true}
use lib.Dec.{eqb}
use lib.ListN.{get_or}
use Rattle.basis.specs.Choice.{◌and◌}
use Rattle.basis.proofs.Choices.{and_parts}
use Rattle.params.specs.Kinds.{kind_of, kind_digit}
use Rattle.params.specs.KindTable.{kind_rows}

-- whether a test holds at every number below n
unfoldable pub every : (ℕ → Bool) → ℕ → Bool
every f zero = true
every f (suc n) = f n and every f n

pub every_at : (f : ℕ → Bool) (n : ℕ) → every f n ≡ true → (k : ℕ) → k < n → f k ≡ true
unfolding every
every_at f zero e k h = absurd (omega arith)
every_at f (suc n) e k h =
    let p = and_parts (f n) (every f n) e in
    dite (dec_lt k n) (λ l. every_at f n p.1 k l) (λ l. let q : k ≡ n = omega arith in ap f q ∙ p.0)

-- the entry of a byte in the table
abbrev pub entry : ℕ → ℕ
entry x = get_or kind_rows (x / 8) 0 / 2 ^ (x % 8 * 4) % 16

-- whether the entry is the digit of the byte's kind, computed at every byte
abbrev right : ℕ → Bool
right x = eqb (entry x) (kind_digit (kind_of x))

all_right : every right 256 ≡ true
unfolding every
all_right = refl

-- the entry of each byte is the digit of its kind
pub entry_is : (x : ℕ) → x < 256 → entry x ≡ kind_digit (kind_of x)
entry_is x h = eqb-true (entry x) (kind_digit (kind_of x)) (every_at right 256 all_right x h)

-- n is none of the numbers below k
abbrev NotBelow : ℕ → ℕ → Type 0
NotBelow zero n = Unit {0}
NotBelow (suc k) n = NotBelow k n × (n ≡ k → ⊥)

pub not_below : (k n : ℕ) → NotBelow k n → k ≤ n
not_below zero n r = omega arith
not_below (suc k) n r = let h = not_below k n r.0 in let g = r.1 in omega (arith, g)
