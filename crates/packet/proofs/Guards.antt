-- The guard for the MID (N19): what it refuses, and that with any other MID what stands after it decides, as if it were
-- not there.
use Rattle.std.proofs.Common.{◌≡◌, ℕ, Bool, true, false, List, ◌∷◌, sym, refl, ap, ◌∙◌, Result, Ok, Err, arith}
use Rattle.basis.specs.Rows.{Row, first_of}
use Rattle.basis.proofs.Choices.{when_true, when_false}
use Rattle.packet.specs.Mid.{is_forbidden, Allowed, mid_row, mid_or, guard_of}
use Rattle.packet.specs.Write.{Writes, answer_of, buffer_of}
use Rattle.refusal.specs.declared.Refusal.{Refusal}
use Rattle.refusal.specs.declared.Refusal.TheVariants.{ForbiddenMid}
use Rattle.packet.proofs.Writing.{refused}

module _ {A : Type 0} (mid : ℕ) (answer : Result A Refusal) where
  -- a reader says 19 of a forbidden MID
  pub guard_stops : is_forbidden mid ≡ true → mid_or mid answer ≡ Err ForbiddenMid
  guard_stops e = when_true (is_forbidden mid) (Err ForbiddenMid) answer e

  -- and with any other MID what it says without the guard
  pub guard_passes : Allowed mid → mid_or mid answer ≡ answer
  guard_passes e = when_false (is_forbidden mid) (Err ForbiddenMid) answer e

  -- so an answer that is no 19 passed the guard
  pub guard_past : (r : Result A Refusal) → mid_or mid answer ≡ r → (r ≡ Err ForbiddenMid → ⊥) → Allowed mid × (answer ≡ r)
  guard_past r e other = go (is_forbidden mid) refl
    where
      go : (t : Bool) → is_forbidden mid ≡ t → Allowed mid × (answer ≡ r)
      go true q = absurd (other (sym e ∙ guard_stops q))
      go false q = (q, sym (guard_passes q) ∙ e)

-- a MID of which the guard says yes is not forbidden
pub let_through : (mid : ℕ) (u : Unit) → Ok u ≡ guard_of mid → Allowed mid
let_through mid u e = (guard_past mid (Ok tt) (Ok u) (sym e) (λ q. let z : ◌≡◌ {A = ℕ} 0 1 = cc in omega arith)).0

module _ (mid : ℕ) (rows : List Row) where
  -- a forbidden MID is 19, whatever the other rows say
  pub mid_stops : is_forbidden mid ≡ true → first_of (mid_row mid ∷ rows) ≡ 19
  mid_stops e = when_true (is_forbidden mid) 19 (first_of rows) e

  -- and with any other MID they decide
  pub mid_passes : Allowed mid → first_of (mid_row mid ∷ rows) ≡ first_of rows
  mid_passes e = when_false (is_forbidden mid) 19 (first_of rows) e

  module _ (bytes out : List ℕ) where
    -- so a writer refuses a forbidden MID and leaves the buffer
    pub guard_refused : is_forbidden mid ≡ true → Writes (mid_row mid ∷ rows) bytes out (Err ForbiddenMid) out
    guard_refused e = refused (mid_row mid ∷ rows) bytes out 18 (mid_stops e)

    -- and with any other MID it does what it would do without the guard
    pub guard_passed : (r : Result ℕ Refusal) (after : List ℕ) → Allowed mid → Writes rows bytes out r after → Writes (mid_row mid ∷ rows) bytes out r after
    guard_passed r after e w =
        record {
          answered = w.answered ∙ ap (λ (k : ℕ). answer_of k bytes) (sym (mid_passes e));
          left = w.left ∙ ap (λ (k : ℕ). buffer_of k bytes out) (sym (mid_passes e));
        }
