-- The repeater's two cases.
use Prim.Native.Nat.{ℕ, ◌+◌, ◌-◌, ◌≤◌}
use mathlib.Core.List.{List}
use mathlib.Core.Bool.{true, false, not}
use mathlib.Core.Path.{◌≡◌, sym, ap, ◌∙◌}
use native.Mathlib.Omega.{arith}
use lib.Dec.{eqb}
use lib.ListN.{length, take, drop}
use borrow.Author.Tests.{leb-true}
use Rattle.basis.specs.Choice.{when}
use Rattle.basis.proofs.Choices.{and_parts, when_true, when_false}
use Rattle.repeater.specs.Repeat.{within_of, repeat_of}

module _ (body : List ℕ) (place len : ℕ) where
  -- a stretch that lies within ends there
  pub ends : within_of body place len ≡ true → place + len ≤ length body
  ends e = leb-true (place + len) (length body) (and_parts (not (eqb place 0)) _ e).1

  -- the standing line, by its bytes and by its memory
  pub stands : (standing : List ℕ) (b o block at : ℕ) → within_of body place len ≡ false
      → (standing ≡ repeat_of body place len standing)
      × ((block ≡ when (within_of body place len) b block) × (at ≡ when (within_of body place len) (place + o) at))
  unfolding repeat_of
  stands standing b o block at e = (
    sym (when_false (within_of body place len) (take len (drop place body)) standing e),
    (sym (when_false (within_of body place len) b block e), sym (when_false (within_of body place len) (place + o) at e)),
  )

  -- the stretch, by its bytes and by its memory
  pub stretches : (standing : List ℕ) (b o block at : ℕ) → within_of body place len ≡ true
      → (take (place + len - place) (drop place body) ≡ repeat_of body place len standing)
      × ((b ≡ when (within_of body place len) b block) × (place + o ≡ when (within_of body place len) (place + o) at))
  unfolding repeat_of
  stretches standing b o block at w =
      let e : place + len - place ≡ len = omega arith in (
        ap (λ (n : ℕ). take n (drop place body)) e ∙ sym (when_true (within_of body place len) (take len (drop place body)) standing w),
        (sym (when_true (within_of body place len) b block w), sym (when_true (within_of body place len) (place + o) at w)),
      )
