-- The seal: 00h and the checksum bring the sum to 0, and nothing else does.
use Rattle.std.proofs.Common.{◌≡◌, ℕ, suc, ◌+◌, ◌%◌, List, [], ◌∷◌, ◌++◌, length, get_or, take, ap, ◌∙◌, arith}
use Rattle.basis.specs.Bytes.{sum, Bytes}
use Rattle.basis.proofs.Bytes.{byte_at, two_behind}
use Rattle.basis.proofs.Sums.{sum_append}
use Rattle.packet.specs.Wire.{check_of, sealed}

-- a byte added with the carry dropped, to a sum whose carries were dropped
pub added : (n a x r : ℕ) → a ≡ n % 256 → r ≡ (a + x) % 256 → r ≡ (n + x) % 256
added n a x r ea er = omega arith

-- 00h and the checksum bring the sum to 0
pub balanced : (front : List ℕ) → sum (sealed front) % 256 ≡ 0
unfolding sum
balanced front = omega (arith, sum_append front (0 ∷ check_of front ∷ []))

-- two bytes behind a front that bring the sum to 0, the first of them 00h, are its seal
pub only_seal : (b : List ℕ) (k : ℕ) → Bytes b → length b ≡ k + 2 → get_or b k 0 ≡ 0 → sum b % 256 ≡ 0 → b ≡ sealed (take k b)
unfolding sum
only_seal b k bytes size ended balance =
    let front = take k b in
    let c = get_or b (suc k) 0 in
    let whole : b ≡ front ++ 0 ∷ c ∷ [] = two_behind b k size ∙ ap (λ (z : ℕ). front ++ z ∷ c ∷ []) ended in
    let total : sum b ≡ sum front + (0 + (c + 0)) = ap sum whole ∙ sum_append front (0 ∷ c ∷ []) in
    let check : c ≡ check_of front = omega (arith, byte_at b (suc k) bytes) in
    whole ∙ ap (λ (z : ℕ). front ++ 0 ∷ z ∷ []) check
