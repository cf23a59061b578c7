-- Laws of a number: what its first digits show of the whole, and when it is right or wrong.
use Prim.Native.Nat.{ℕ, ◌+◌, ◌*◌, ◌-◌, ◌≤◌}
use mathlib.Core.Path.{◌≡◌, refl, sym, ap, ◌∙◌}
use mathlib.Core.Bool.{Bool, true, false}
use mathlib.Core.List.{List, [], ◌∷◌}
use native.Mathlib.Omega.{arith}
use lib.ListN.{length, get_or, drop}
use Rattle.basis.specs.Choice.{when, ◌and◌, within}
use Rattle.params.specs.Bytes.{caret, param_of, read_to}
use Rattle.params.specs.Number.{digits, value_of, number_of}
use Rattle.params.specs.declared.Parameter.{Parameter}
use Rattle.refusal.specs.declared.Fault.{Fault}
use Rattle.refusal.specs.Refusal.{fault}
use Rattle.std.proofs.Common.{Result, Ok, Err}
use Rattle.basis.proofs.Choices.{and_true, and_parts, within_parts, within_true}
use Rattle.params.proofs.Places.{param_next, param_end}

else_taken : (t : Bool) (r w : Result Parameter Fault) → (t ≡ true → ⊥) → w ≡ when t r w
else_taken true r w h = absurd (h refl)
else_taken false r w h = refl

-- a number that breaks one of the rules is wrong, whichever it breaks
pub number_wrong : (lo hi most place at : ℕ) (ds : List ℕ) → (digits ds ≡ true → 1 ≤ length ds → length ds ≤ most → lo ≤ value_of 0 ds → value_of 0 ds ≤ hi → ⊥) → Err (fault 23 place) ≡ number_of lo hi most place at ds
number_wrong lo hi most place at ds h =
    else_taken _ _ _
    (λ (e : digits ds and (within 1 (length ds) most and within lo (value_of 0 ds) hi) ≡ true).
    let c = and_parts (digits ds) _ e in
    let r = and_parts (within 1 (length ds) most) _ c.1 in
    let n = within_parts 1 (length ds) most r.0 in
    let v = within_parts lo (value_of 0 ds) hi r.1 in
    h c.0 n.0 n.1 v.0 v.1)

pub number_right : (lo hi most place at : ℕ) (ds : List ℕ) → digits ds ≡ true → 1 ≤ length ds → length ds ≤ most → lo ≤ value_of 0 ds → value_of 0 ds ≤ hi → number_of lo hi most place at ds ≡ Ok (read_to (at + length ds) (value_of 0 ds))
number_right lo hi most place at ds d one few low high =
    ap (λ (t : Bool). when t (Ok (read_to (at + length ds) (value_of 0 ds))) (Err (fault 23 place)))
    (and_true _ _ d
    (and_true _ _ (within_true 1 (length ds) most one few) (within_true lo (value_of 0 ds) hi low high)))

-- more digits never make a value less
pub value_grows : (ds : List ℕ) (v : ℕ) → v ≤ value_of v ds
value_grows [] v = omega arith
value_grows (x ∷ ds) v = let h = value_grows ds (v * 10 + (x - 0x30)) in omega arith

-- the digits from one place to another made the value v, and what is left decides the rest
pub record Passed (b : List ℕ) (from at v : ℕ) : Type 0 where
  pub good : digits (param_of (drop from b)) ≡ digits (param_of (drop at b))
  pub value : value_of 0 (param_of (drop from b)) ≡ value_of v (param_of (drop at b))
  pub count : from + length (param_of (drop from b)) ≡ at + length (param_of (drop at b))

module _ (b : List ℕ) (from at v x : ℕ) (p : Passed b from at v) (ex : x ≡ get_or b at caret) where
  -- at a caret or behind the end all is known
  pub end_good : x ≡ caret → digits (param_of (drop from b)) ≡ true
  end_good h = p.good ∙ ap digits (param_end b at (sym ex ∙ h))

  pub end_value : x ≡ caret → value_of 0 (param_of (drop from b)) ≡ v
  end_value h = p.value ∙ ap (value_of v) (param_end b at (sym ex ∙ h))

  pub end_count : x ≡ caret → from + length (param_of (drop from b)) ≡ at
  end_count h = let e = ap length (param_end b at (sym ex ∙ h)) in let k = p.count in omega arith

  pub end_right : (lo hi most place : ℕ) → x ≡ caret → (at ≡ from → ⊥) → from ≤ at → at ≤ from + most → lo ≤ v → v ≤ hi → Ok (read_to at v) ≡ number_of lo hi most place from (param_of (drop from b))
  end_right lo hi most place h some after few low high =
      let ds = param_of (drop from b) in
      let n = end_count h in
      let w = end_value h in
      let one : 1 ≤ length ds = omega arith in
      let most' : length ds ≤ most = omega arith in
      let low' : lo ≤ value_of 0 ds = omega arith in
      let high' : value_of 0 ds ≤ hi = omega arith in
      sym
      (number_right lo hi most place from ds (end_good h) one most' low' high'
      ∙ ap (λ (k : ℕ). Ok (read_to (from + length ds) k)) w
      ∙ ap (λ (k : ℕ). Ok (read_to k v)) n)

  module _ (h : x ≡ caret → ⊥) where
    step : param_of (drop at b) ≡ x ∷ param_of (drop (at + 1) b)
    step = param_next b at (λ k. h (ex ∙ k)) ∙ ap (λ (k : ℕ). k ∷ param_of (drop (at + 1) b)) (sym ex)

    -- one byte more
    pub next_good : digits (param_of (drop from b)) ≡ true → (0x30 ≤ x) × (x ≤ 0x39)
    next_good d =
        let e : within 0x30 x 0x39 and digits (param_of (drop (at + 1) b)) ≡ true = sym (ap digits step) ∙ sym p.good ∙ d in
        within_parts 0x30 x 0x39 (and_parts (within 0x30 x 0x39) _ e).0

    pub next_count : from + length (param_of (drop from b)) ≡ at + 1 + length (param_of (drop (at + 1) b))
    next_count = let e = ap length step in let k = p.count in omega arith

    pub next_value : value_of 0 (param_of (drop from b)) ≡ value_of (v * 10 + (x - 0x30)) (param_of (drop (at + 1) b))
    next_value = p.value ∙ ap (value_of v) step

    -- the same for any n that is ten times the value plus the digit, whichever sums made it
    pub next_passed : (n : ℕ) → n ≡ v * 10 + (x - 0x30) → 0x30 ≤ x → x ≤ 0x39 → Passed b from (at + 1) n
    next_passed n e low high =
        record {
          good =
              p.good ∙ ap digits step
              ∙ ap (λ (t : Bool). t and digits (param_of (drop (at + 1) b))) (within_true 0x30 x 0x39 low high);
          value = next_value ∙ ap (λ (k : ℕ). value_of k (param_of (drop (at + 1) b))) (sym e);
          count = next_count;
        }
