-- How the writers' stores come to the layout of the wire: the five bytes in front, the part behind them, the seal.
use Rattle.std.proofs.Common.{◌≡◌, ℕ, ◌+◌, ◌-◌, ◌%◌, ◌<◌, ◌≤◌, List, [], ◌∷◌, ◌++◌, length, get_or, take, drop, set, sym, refl, ap, ◌∙◌, add-one, arith, length-append, length-take-le, take-suc}
use borrow.Rule.Slice.PartMut.{put_mid}
use Rattle.basis.specs.Bytes.{sum, laid}
use Rattle.basis.proofs.Laid.{laid_at, laid_over, laid_lent, laid_push, take_laid}
use Rattle.packet.specs.Wire.{check_of, sealed, front_of, packet_of}

pub seal_lays : (o : List ℕ) (at check : ℕ) → at + 2 ≤ length o → check ≡ check_of (take at o)
    → set (set o at 0) (at + 1) check ≡ laid (sealed (take at o)) o
seal_lays o at check h e =
    ap (λ (n : ℕ). set (set o at 0) n check) (add-one at)
    ∙ laid_at at (0 ∷ check ∷ []) o h
    ∙ ap (λ (k : ℕ). laid (take at o ++ 0 ∷ k ∷ []) o) e

-- the front of a buffer, sealed, where the front is what was laid last
pub seal_laid : (p o : List ℕ) (n : ℕ) → n ≡ length p → laid (sealed (take n (laid p o))) (laid p o) ≡ laid (sealed p) o
seal_laid p o n e =
    ap (λ (k : ℕ). laid (sealed (take k (laid p o))) (laid p o)) e
    ∙ ap (λ (f : List ℕ). laid (sealed f) (laid p o)) (take_laid p o)
    ∙ laid_over (sealed p) p o (omega (arith, length-append p (0 ∷ check_of p ∷ [])))

-- a byte more of the part, stored behind those that were laid
pub next_laid : (part o f : List ℕ) (i : ℕ) → i < length part → length part ≤ length o → f ≡ laid (take i part) o
    → set f i (get_or part i 0) ≡ laid (take (i + 1) part) o
next_laid part o f i below fits ef =
    let li : length (take i part) ≡ i = length-take-le i part (omega arith) in
    let room : length (take i part) < length o = omega arith in
    ap (λ (r : List ℕ). set r i (get_or part i 0)) ef
    ∙ ap (λ (k : ℕ). set (laid (take i part) o) k (get_or part i 0)) (sym li)
    ∙ laid_push (take i part) o (get_or part i 0) room
    ∙ ap (λ (r : List ℕ). laid r o) (sym (take-suc part i 0 below) ∙ ap (λ (k : ℕ). take k part) (sym (add-one i)))

module _ (mid id fifth : ℕ) (part o f y : List ℕ) (fits : length part + 7 ≤ length o)
    (ef : f ≡ laid (mid ∷ 0x7F ∷ (length part + 7) ∷ id ∷ fifth ∷ []) o) (ey : y ≡ laid part (take (length f - 5) (drop 5 f))) where
  -- the buffer with the part laid behind the front
  abbrev both : List ℕ
  both = put_mid 5 (length f - 5) f y

  both_laid : both ≡ laid (front_of mid id fifth part) o
  both_laid =
      let least : 5 ≤ length o = omega arith in
      laid_lent 5 (mid ∷ 0x7F ∷ (length part + 7) ∷ id ∷ fifth ∷ []) part o f y refl least ef ey

  -- the front's sum and the part's make the sum of all that was laid
  pub both_sum : (total ahead behind : ℕ) → total ≡ (ahead + behind) % 256
      → ahead ≡ sum (mid ∷ 0x7F ∷ (length part + 7) ∷ id ∷ fifth ∷ []) % 256
      → behind ≡ sum part % 256
      → total ≡ sum (take (length part + 5) both) % 256
  unfolding sum
  both_sum total ahead behind et ea eb =
      let all = front_of mid id fifth part in
      let end : length part + 5 ≡ length all = omega arith in
      let it : take (length part + 5) both ≡ all =
      ap (λ (r : List ℕ). take (length part + 5) r) both_laid ∙ ap (λ (n : ℕ). take n (laid all o)) end ∙ take_laid all o in
      omega (arith, ap sum it)

  -- and the seal behind it makes the packet
  pub packet_lays : laid (sealed (take (length part + 5) both)) both ≡ laid (packet_of mid id fifth part) o
  unfolding packet_of
  packet_lays =
      let all = front_of mid id fifth part in
      ap (λ (r : List ℕ). laid (sealed (take (length part + 5) r)) r) both_laid ∙ seal_laid all o (length part + 5) (omega arith)
