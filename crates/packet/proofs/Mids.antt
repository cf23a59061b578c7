-- The MIDs that no sign may have lie at both ends of their range, and no other is one of them.
use Rattle.std.proofs.Common.{◌≡◌, ℕ, ◌≤◌, ◌<◌, true, false, sym, ap, arith}
use mathlib.Core.Logic.{dite}
use native.Mathlib.Decide.{dec_le}
use Rattle.basis.proofs.Tests.{tests}
use Rattle.packet.specs.Mid.{is_forbidden}

pub low_forbidden : (mid : ℕ) → mid < 2 → true ≡ is_forbidden mid
unfolding is_forbidden
low_forbidden mid h =
    dite (dec_le mid 0)
    (λ low. let e : mid ≡ 0 = omega arith in sym (ap is_forbidden e))
    (λ high. let e : mid ≡ 1 = omega arith in sym (ap is_forbidden e))

pub high_forbidden : (mid : ℕ) → 0x7E ≤ mid → mid < 0x80 → true ≡ is_forbidden mid
unfolding is_forbidden
high_forbidden mid h k =
    dite (dec_le mid 0x7E)
    (λ low. let e : mid ≡ 0x7E = omega arith in sym (ap is_forbidden e))
    (λ high. let e : mid ≡ 0x7F = omega arith in sym (ap is_forbidden e))

pub others_allowed : (mid : ℕ) → (mid ≡ 0 → ⊥) → (mid ≡ 1 → ⊥) → (mid ≡ 0x7E → ⊥) → (mid ≡ 0x7F → ⊥) → false ≡ is_forbidden mid
unfolding is_forbidden
others_allowed mid a b c d = search tests
