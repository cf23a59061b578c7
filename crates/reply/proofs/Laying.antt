-- How the writer's stores come to the reply, and the turned MID to its lowest bit.
use Prim.Native.Nat.{ℕ, ◌+◌, ◌-◌, ◌*◌, ◌/◌, ◌%◌, ◌≤◌}
use mathlib.Core.Path.{◌≡◌, refl, sym, ap, ◌∙◌}
use mathlib.Core.List.{List, [], ◌∷◌, ◌++◌}
use mathlib.Core.Bool.{Bool, true}
use mathlib.Core.Logic.{dite}
use native.Mathlib.Decide.{dec_le}
use native.Mathlib.Omega.{arith}
use lib.Bits.{bit_xor, differ, xor_step, xor_zero_r}
use lib.Dec.{eqb}
use lib.ListN.{length, take, drop, set}
use borrow.Author.Tests.{eq-eqb, ne_eqb}
use Rattle.basis.specs.Bytes.{laid}
use Rattle.basis.proofs.Laid.{take_laid, length_laid}
use Rattle.basis.proofs.Choices.{when_true, when_false}
use Rattle.basis.proofs.Tests.{tests}
use Rattle.packet.specs.Wire.{check_of, sealed, turned, state_of, aux_of, reply_of}
use Rattle.packet.specs.Write.{Writes}
use Rattle.std.specs.Prelude.{Ok}
use Rattle.packet.proofs.Laying.{seal_lays, seal_laid}
use Rattle.packet.proofs.Writing.{wrote}
use Rattle.reply.specs.Reply.{is_last, reply_rows}

-- the front of six bytes copied, 00h and the checksum stored behind it
pub front_lays : (front o y : List ℕ) (check : ℕ) → length front ≡ 6 → 8 ≤ length o → y ≡ laid front o → check ≡ check_of front
    → set (set y 6 0) 7 check ≡ laid (sealed front) o
front_lays front o y check six fits ey ec =
    let room : 6 + 2 ≤ length (laid front o) = omega (arith, length_laid front o (omega arith)) in
    let it : take 6 (laid front o) ≡ front = ap (λ (n : ℕ). take n (laid front o)) (sym six) ∙ take_laid front o in
    ap (λ (r : List ℕ). set (set r 6 0) 7 check) ey
    ∙ seal_lays (laid front o) 6 check room (ec ∙ ap check_of (sym it))
    ∙ seal_laid front o 6 (sym six)

-- a reply that is written whole
pub reply_wrote : (mid last : ℕ) (busy sink : Bool) (o y : List ℕ) (from state aux check : ℕ) → is_last last ≡ true → 8 ≤ length o
    → from ≡ turned mid → state ≡ state_of busy → aux ≡ aux_of sink
    → y ≡ (from ∷ 0x7F ∷ 8 ∷ last ∷ state ∷ aux ∷ []) ++ drop 6 o → check ≡ check_of (from ∷ 0x7F ∷ 8 ∷ last ∷ state ∷ aux ∷ [])
    → Writes (reply_rows mid last busy sink o) (reply_of mid last busy sink) o (Ok 8) (set (set y 6 0) 7 check)
unfolding reply_of laid
reply_wrote mid last busy sink o y from state aux check known fits e1 e2 e3 ey ec =
    let front = from ∷ 0x7F ∷ 8 ∷ last ∷ state ∷ aux ∷ [] in
    let same : front ≡ turned mid ∷ 0x7F ∷ 8 ∷ last ∷ state_of busy ∷ aux_of sink ∷ [] = cc in
    wrote (reply_rows mid last busy sink o) (reply_of mid last busy sink) o 8 (set (set y 6 0) 7 check) (search (tests, known)) refl
    (front_lays front o y check refl fits ey ec ∙ ap (λ (f : List ℕ). laid (sealed f) o) same)

-- turning the lowest bit of a MID adds 1 to an even one and takes 1 off an odd one
pub lowest_turned : (mid : ℕ) → bit_xor mid 1 ≡ turned mid
lowest_turned mid =
    let half : bit_xor (mid / 2) 0 ≡ mid / 2 = xor_zero_r (mid / 2) in
    xor_step mid 1
    ∙ ap (λ (n : ℕ). n * 2 + differ (mid % 2) 1) half
    ∙ dite (dec_le (mid % 2) 0)
    (λ even.
    let e : mid % 2 ≡ 0 = omega arith in
    let all : mid / 2 * 2 + 1 ≡ mid + 1 = omega arith in
    ap (λ (t : ℕ). mid / 2 * 2 + differ t 1) e ∙ all ∙ sym (when_true (eqb (mid % 2) 0) (mid + 1) (mid - 1) (eq-eqb (mid % 2) 0 e)))
    (λ odd.
    let e : mid % 2 ≡ 1 = omega arith in
    let all : mid / 2 * 2 + 0 ≡ mid - 1 = omega arith in
    ap (λ (t : ℕ). mid / 2 * 2 + differ t 1) e
    ∙ all
    ∙ sym (when_false (eqb (mid % 2) 0) (mid + 1) (mid - 1) (ne_eqb (mid % 2) 0 (λ z. omega arith))))
