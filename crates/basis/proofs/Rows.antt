-- Laws of a table of refusals: the number that is given applies, no lower one does, and none is given only if none applies.
use Prim.Native.Nat.{ℕ, ◌≤◌, ◌<◌}
use mathlib.Core.Bool.{Bool, true, false}
use mathlib.Core.List.{List, [], ◌∷◌}
use mathlib.Core.Path.{◌≡◌, refl, sym, ap}
use native.Mathlib.Omega.{arith}
use lib.Dec.{eqb}
use borrow.Author.Tests.{eq-eqb, eqb-true}
use Rattle.basis.specs.Choice.{◌and◌, ◌or◌}
use Rattle.basis.specs.Rows.{Row, ◌if◌, first_of, applies, Rising, Passed}

-- where no number is given, no test holds
pub all_passed : (rows : List Row) (m : ℕ) → Rising m rows → first_of rows ≡ 0 → Passed rows
all_passed [] m r e = tt
all_passed (n if true ∷ rows) m r e = absurd (omega (arith, r.0))
all_passed (n if false ∷ rows) m r e = (refl, all_passed rows n r.1 e)

-- the number that is given applies
pub given_applies : (rows : List Row) (k : ℕ) → first_of rows ≡ k → 0 < k → applies k rows ≡ true
given_applies [] k e h = let z : ◌≡◌ {A = ℕ} 0 1 = omega arith in cc
given_applies (n if true ∷ rows) k e h = ap (λ (t : Bool). (t and true) or applies k rows) (eq-eqb k n (sym e))
given_applies (n if false ∷ rows) k e h = go (eqb k n) (given_applies rows k e h)
  where
    go : (t : Bool) → applies k rows ≡ true → (t and false) or applies k rows ≡ true
    go true r = r
    go false r = r

-- a number that applies stands above the row before the table
above : (rows : List Row) (m j : ℕ) → Rising m rows → applies j rows ≡ true → m < j
above [] m j r e = let z : ◌≡◌ {A = ℕ} 0 1 = cc in omega arith
above (n if b ∷ rows) m j r e = go (eqb j n) b refl e (λ w. above rows n j r.1 w)
  where
    go : (t u : Bool) → eqb j n ≡ t → (t and u) or applies j rows ≡ true → (applies j rows ≡ true → n < j) → m < j
    go true true q w ih = omega (arith, eqb-true j n q, r.0)
    go true false q w ih = omega (arith, ih w, r.0)
    go false u q w ih = omega (arith, ih w, r.0)

-- where a number applies one is given, and no higher one
pub lowest_given : (rows : List Row) (m j : ℕ) → Rising m rows → applies j rows ≡ true → (0 < first_of rows) × (first_of rows ≤ j)
lowest_given [] m j r e = let z : ◌≡◌ {A = ℕ} 0 1 = cc in (omega arith, omega arith)
lowest_given (n if true ∷ rows) m j r e = (omega (arith, r.0), go (eqb j n) refl e)
  where
    go : (t : Bool) → eqb j n ≡ t → (t and true) or applies j rows ≡ true → n ≤ j
    go true q w = omega (arith, eqb-true j n q)
    go false q w = omega (arith, above rows n j r.1 w)
lowest_given (n if false ∷ rows) m j r e = lowest_given rows n j r.1 (go (eqb j n) e)
  where
    go : (t : Bool) → (t and false) or applies j rows ≡ true → applies j rows ≡ true
    go true w = w
    go false w = w
