-- The fields of a normal packet, part by part.
use Rattle.std.proofs.Common.{◌≡◌, ℕ, ◌+◌, ◌<◌, ◌≤◌, Bool, true, eqb, ltb, leb, sym, ap, ◌∙◌, arith, ltb-true, lt-ltb, eq-eqb, ne_eqb, eqb-true, le-leb, leb-true}
use mathlib.Core.Logic.{dite}
use native.Mathlib.Decide.{dec_lt}
use Rattle.basis.specs.Choice.{◌or◌, within}
use Rattle.basis.proofs.Choices.{and_true, and_parts, within_parts, within_true}
use Rattle.packet.specs.Write.{right_fields}

-- right fields, part by part
pub record Right (id total position count : ℕ) : Type 0 where
  pub normal : id ≤ 0x3F
  pub some : 1 ≤ count
  pub few : count ≤ 14
  pub least : 1 ≤ total
  pub most : total ≤ 6
  pub below : position < total
  pub full : position + 1 < total → count ≡ 14

module _ (id total position count : ℕ) where
  -- the last packet, or one with 14 data bytes
  full_of : eqb (position + 1) total or eqb count 14 ≡ true → position + 1 < total → count ≡ 14
  full_of e more = eqb-true count 14 (sym (ap (λ (t : Bool). t or eqb count 14) (ne_eqb (position + 1) total (omega arith))) ∙ e)

  of_full : position < total → (position + 1 < total → count ≡ 14) → eqb (position + 1) total or eqb count 14 ≡ true
  of_full below full =
      dite (dec_lt (position + 1) total)
      (λ more. ap (λ (t : Bool). t or eqb count 14) (ne_eqb (position + 1) total (omega arith)) ∙ eq-eqb count 14 (full more))
      (λ last. ap (λ (t : Bool). t or eqb count 14) (eq-eqb (position + 1) total (omega arith)))

  -- fields are right exactly where each part is
  pub right_parts : right_fields id total position count ≡ true → Right id total position count
  right_parts e =
      let p = and_parts (leb id 0x3F) _ e in
      let q = and_parts (within 1 count 14) _ p.1 in
      let r = and_parts (within 1 total 6) _ q.1 in
      let s = and_parts (ltb position total) _ r.1 in
      let c = within_parts 1 count 14 q.0 in
      let t = within_parts 1 total 6 r.0 in
      record {
        normal = leb-true id 0x3F p.0;
        some = c.0;
        few = c.1;
        least = t.0;
        most = t.1;
        below = ltb-true position total s.0;
        full = full_of s.1;
      }

  pub parts_right : Right id total position count → right_fields id total position count ≡ true
  parts_right r =
      and_true (leb id 0x3F) _ (le-leb id 0x3F r.normal)
      (and_true (within 1 count 14) _ (within_true 1 count 14 r.some r.few)
      (and_true (within 1 total 6) _ (within_true 1 total 6 r.least r.most)
      (and_true (ltb position total) _ (lt-ltb position total r.below) (of_full r.below r.full))))
