-- Totals: equal where each unit is; and they add up like the numbers they hold, up to the units' limit.
use Prim.Native.Nat.{ℕ, zero, suc, ◌+◌, ◌*◌, ◌≤◌}
use mathlib.Core.Path.{◌≡◌, sym, ap, ◌∙◌}
use mathlib.Core.Logic.{dite}
use native.Mathlib.Decide.{dec_le}
use native.Mathlib.Nat.{mul-le-mul_left, mul-le-mul_right}
use native.Mathlib.Omega.{arith}
use Rattle.units.specs.Units.{limit, capped, sum_of, times_of as times_over}
use Rattle.units.specs.declared.Steps.{Steps}
use Rattle.units.specs.declared.Scans.{Scans}
use Rattle.units.specs.declared.Millis.{Millis}
use Rattle.totals.specs.Totals.{totals_of, none_of, plus_of, times_of}
use Rattle.totals.specs.declared.Totals.{Totals}

pub totals_are : (a : Steps) (b : Scans) (c : Millis) (x y z : ℕ) → a.0 ≡ x → b.0 ≡ y → c.0 ≡ z
    → ◌≡◌ {A = Totals} (record { steps = a; scans = b; millis = c }) (totals_of x y z)
totals_are a b c x y z ea eb ec =
    ap (λ (n : ℕ). record { steps = record { 0 = n }; scans = b; millis = c }) ea
    ∙ ap (λ (n : ℕ). record { steps = record { 0 = x }; scans = record { 0 = n }; millis = c }) eb
    ∙ ap (λ (n : ℕ). record { steps = record { 0 = x }; scans = record { 0 = y }; millis = record { 0 = n } }) ec

-- within the units' limit
abbrev pub Within : Totals → Type 0
Within t = (t.steps.0 ≤ limit) × ((t.scans.0 ≤ limit) × (t.millis.0 ≤ limit))

pub plus_within : (t u : Totals) → Within (plus_of t u)
plus_within t u = omega arith

-- some times a capped number is some times the number, capped
capped_times : (y m : ℕ) → capped (capped y * m) ≡ capped (y * m)
capped_times y zero = omega arith
capped_times y (suc m) =
    dite (dec_le y limit) (λ h. let e : capped y ≡ y = omega arith in ap (λ (n : ℕ). capped (n * suc m)) e)
    (λ h.
    let e : capped y ≡ limit = omega arith in
    let one : 1 ≤ suc m = omega arith in
    let past : limit ≤ y = omega arith in
    let big : limit * 1 ≤ limit * suc m = mul-le-mul_left limit one in
    let bigger : limit * suc m ≤ y * suc m = mul-le-mul_right (suc m) past in
    ap (λ (n : ℕ). capped (n * suc m)) e ∙ omega arith)

-- one command behind what is summed
field_one : (x c p : ℕ) → sum_of (sum_of x c) (capped p) ≡ sum_of x (capped (c + p))
field_one x c p = omega arith

right : (a b : ℕ) → sum_of a (capped b) ≡ sum_of a b
right a b = omega arith

both : (a b : ℕ) → sum_of (capped a) (capped b) ≡ sum_of a b
both a b = omega arith

-- a pass and its `E`, from nothing
pass : (q e : ℕ) → sum_of (sum_of 0 (capped q)) e ≡ capped (q + e)
pass q e = omega arith

-- a loop: its `L`, the first pass and `E` from nothing, the second pass and `E` from nothing m times, and what follows
field_loop : (x l p e q m r : ℕ)
    → sum_of (sum_of (sum_of (sum_of x l) (sum_of (sum_of 0 (capped p)) e)) (times_over (sum_of (sum_of 0 (capped q)) e) m)) (capped r)
    ≡ sum_of x (capped (l + (p + e + m * (q + e) + r)))
field_loop x l p e q m r =
    let many : times_over (sum_of (sum_of 0 (capped q)) e) m ≡ capped ((q + e) * m) = ap (λ (n : ℕ). capped (n * m)) (pass q e) ∙ capped_times (q + e) m in
    let sum : x + l + (p + e) + (q + e) * m + r ≡ x + (l + (p + e + m * (q + e) + r)) = omega arith in
    ap (λ (n : ℕ). sum_of (sum_of (sum_of (sum_of x l) n) (times_over (sum_of (sum_of 0 (capped q)) e) m)) (capped r)) (pass p e)
    ∙ ap (λ (n : ℕ). sum_of (sum_of n (times_over (sum_of (sum_of 0 (capped q)) e) m)) (capped r)) (both (x + l) (p + e))
    ∙ ap (λ (n : ℕ). sum_of (sum_of (capped (x + l + (p + e))) n) (capped r)) many
    ∙ ap (λ (n : ℕ). sum_of n (capped r)) (both (x + l + (p + e)) ((q + e) * m))
    ∙ both (x + l + (p + e) + (q + e) * m) r
    ∙ ap capped sum
    ∙ sym (right x (l + (p + e + m * (q + e) + r)))

pub plus_one : (t : Totals) (a p b q d r : ℕ)
    → plus_of (plus_of t (totals_of a b d)) (totals_of (capped p) (capped q) (capped r)) ≡ plus_of t (totals_of (capped (a + p)) (capped (b + q)) (capped (d + r)))
plus_one t a p b q d r =
    totals_are _ _ _ _ _ _ (field_one t.steps.0 a p) (field_one t.scans.0 b q) (field_one t.millis.0 d r)

pub plus_none : (t : Totals) → Within t → plus_of t none_of ≡ t
plus_none t w = totals_are _ _ _ t.steps.0 t.scans.0 t.millis.0 (omega (arith, w.0)) (omega (arith, w.1.0)) (omega (arith, w.1.1))

pub plus_loop : (t : Totals) (m l p e q r l2 p2 e2 q2 r2 l3 p3 e3 q3 r3 : ℕ)
    → plus_of
    (plus_of (plus_of (plus_of t (totals_of l l2 l3)) (plus_of (plus_of none_of (totals_of (capped p) (capped p2) (capped p3))) (totals_of e e2 e3)))
    (times_of m (plus_of (plus_of none_of (totals_of (capped q) (capped q2) (capped q3))) (totals_of e e2 e3))))
    (totals_of (capped r) (capped r2) (capped r3))
    ≡ plus_of t
    (totals_of (capped (l + (p + e + m * (q + e) + r))) (capped (l2 + (p2 + e2 + m * (q2 + e2) + r2))) (capped (l3 + (p3 + e3 + m * (q3 + e3) + r3))))
plus_loop t m l p e q r l2 p2 e2 q2 r2 l3 p3 e3 q3 r3 =
    totals_are _ _ _ _ _ _ (field_loop t.steps.0 l p e q m r) (field_loop t.scans.0 l2 p2 e2 q2 m r2)
    (field_loop t.millis.0 l3 p3 e3 q3 m r3)
