-- Reading a packet (W9): 19 for a forbidden MID (N19), the lowest of N1 to N11 that applies, and the fields of what none
-- of them refuses (W3 to W6).
use Rattle.std.specs.Prelude.{ℕ, ◌+◌, ◌-◌, ◌/◌, ◌%◌, ◌≤◌, List, [], ◌∷◌, Bool, true, not, ◌≡◌, length, get_or, eqb, ltb, leb, Result}
use Rattle.basis.specs.Bytes.{sum}
use Rattle.basis.specs.Choice.{when, ◌and◌, ◌or◌}
use Rattle.basis.specs.Told.{Told}
use Rattle.basis.specs.Rows.{Row, ◌if◌, first_of, applies}
use Rattle.refusal.specs.Refusal.{refused_or, told_by}
use Rattle.refusal.specs.declared.Refusal.{Refusal}
use Rattle.packet.specs.Mid.{mid_or}
use Rattle.reader.specs.declared.read.Packet.{Packet}
use Rattle.reader.specs.declared.read.Packet.TheVariants.{Query, Reset, Normal}

-- 40h and 41h are the only IDs above 3Fh that number 8 lets pass
abbrev pub is_normal : ℕ → Bool
is_normal id = leb id 0x3F

-- N is 1 to 6, position below N
abbrev pub wrong_place : ℕ → ℕ → Bool
wrong_place total position = ltb total 1 or ltb 6 total or leb total position

-- numbers 9 to 11, of the ID, the fifth byte and the length
abbrev pub field_rows : ℕ → ℕ → ℕ → List Row
field_rows id fifth len =
    9 if when (is_normal id) (eqb len 7) (ltb 7 len)
    ∷ 10 if when (is_normal id) (wrong_place (fifth / 16) (fifth % 16)) (not (eqb fifth 0x10))
    ∷ 11 if (ltb (fifth % 16 + 1) (fifth / 16) and ltb (len - 7) 14)
    ∷ []

-- numbers 1 to 8, of the frame, and 9 to 11 behind them
abbrev pub rows_of : ℕ → List ℕ → List Row
rows_of mid b =
    1 if ltb (length b) 7
    ∷ 2 if ltb 21 (length b)
    ∷ 3 if not (eqb (get_or b 2 0) (length b))
    ∷ 4 if not (eqb (sum b % 256) 0)
    ∷ 5 if not (eqb (get_or b 0 0) mid)
    ∷ 6 if not (eqb (get_or b 1 0) 0x7F)
    ∷ 7 if not (eqb (get_or b (length b - 2) 0) 0)
    ∷ 8 if ltb 0x41 (get_or b 3 0)
    ∷ field_rows (get_or b 3 0) (get_or b 4 0) (length b)

-- what the ID makes of a packet that nothing refuses
abbrev pub reading_of : ℕ → ℕ → ℕ → Packet
reading_of id fifth len = when (is_normal id) (Normal id (fifth / 16) (fifth % 16) (len - 7)) (when (eqb id 0x40) Query Reset)

-- the answer by the fields alone
abbrev pub fields_of : ℕ → ℕ → ℕ → Result Packet Refusal
fields_of id fifth len = refused_or (first_of (field_rows id fifth len)) (reading_of id fifth len)

-- the lowest number that applies, or the packet's kind and fields: what a sign reads whose MID is not judged
unfoldable pub lowest_of : ℕ → List ℕ → Result Packet Refusal
lowest_of mid b = refused_or (first_of (rows_of mid b)) (reading_of (get_or b 3 0) (get_or b 4 0) (length b))

-- what a sign reads: 19 for a forbidden MID, a guard that is no row of the table
unfoldable pub read_of : ℕ → List ℕ → Result Packet Refusal
read_of mid b = mid_or mid (lowest_of mid b)

-- a number that applies to these bytes, and no lower one does
pub record Lowest (mid : ℕ) (b : List ℕ) (k : ℕ) : Type 0 where
  pub holds : applies k (rows_of mid b) ≡ true
  pub lowest : (j : ℕ) → applies j (rows_of mid b) ≡ true → k ≤ j

-- the answer in the rules' numbers: 1 for a query, 2 for a reset, 3 for a normal packet; then its ID, N, position and
-- count of data bytes
abbrev pub values_of : Packet → List ℕ
values_of Query = 1 ∷ 0 ∷ 0 ∷ 0 ∷ 0 ∷ []
values_of Reset = 2 ∷ 0 ∷ 0 ∷ 0 ∷ 0 ∷ []
values_of (Normal id total position len) = 3 ∷ id ∷ total ∷ position ∷ len ∷ []

abbrev pub told_of : Result Packet Refusal → Told
told_of = told_by values_of
