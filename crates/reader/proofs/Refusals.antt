-- The refusal is the lowest that applies, for every MID that is not forbidden: a number is given exactly if one applies,
-- it applies itself, and none below it does. No reply is taken for a packet, whatever the MID.
use Prim.Native.Nat.{ℕ, zero, suc, ◌<◌}
use mathlib.Core.Path.{◌≡◌, refl, sym, ap, subst, ◌∙◌}
use mathlib.Core.List.{List, ◌∷◌}
use mathlib.Core.Bool.{Bool, true, false}
use native.Mathlib.Omega.{arith}
use lib.ListN.{length, get_or}
use Rattle.basis.specs.Rows.{first_of, applies}
use Rattle.basis.proofs.Rows.{given_applies, lowest_given}
use Rattle.std.specs.Prelude.{Result, Err}
use Rattle.refusal.specs.Refusal.{number_of, refusal_of, refused_or, Named, AllNamed}
use Rattle.refusal.proofs.Names.{number_some, first_named}
use Rattle.refusal.specs.declared.Refusal.{Refusal}
use Rattle.packet.specs.Mid.{is_forbidden, Allowed, mid_row}
use Rattle.packet.specs.Wire.{reply_of}
use Rattle.packet.proofs.Guards.{mid_stops, mid_passes}
use Rattle.reader.specs.Read.{lowest_of, read_of, rows_of, reading_of, Lowest}
use Rattle.reader.specs.declared.read.Packet.{Packet}
use Rattle.reader.proofs.Guard.{read_stops, read_passes}
use Rattle.reader.proofs.Unique.{table_rises}

-- each number of the table has a name
table_named : (mid : ℕ) (b : List ℕ) → AllNamed (rows_of mid b)
table_named mid b = (refl, (refl, (refl, (refl, (refl, (refl, (refl, (refl, (refl, (refl, (refl, tt)))))))))))

-- a refusal is the one of the table's number
refused_by : (n : ℕ) (a : Packet) (e : Refusal) → ◌≡◌ {A = Result Packet Refusal} (refused_or n a) (Err e) → (0 < n) × (refusal_of n ≡ e)
refused_by zero a e q = let z : ◌≡◌ {A = ℕ} 0 1 = cc in absurd (omega arith)
refused_by (suc n) a e q = let w : refusal_of (suc n) ≡ e = cc in (omega arith, w)

-- the refusal's number applies, and no lower one does
by_table : (mid : ℕ) (b : List ℕ) (e : Refusal) → lowest_of mid b ≡ Err e → Lowest mid b (number_of e)
unfolding lowest_of
by_table mid b e q =
    let rows = rows_of mid b in
    let r = refused_by (first_of rows) (reading_of (get_or b 3 0) (get_or b 4 0) (length b)) e q in
    let n : first_of rows ≡ number_of e = sym (first_named rows (table_named mid b) r.0) ∙ ap number_of r.1 in
    record {
      holds = given_applies rows (number_of e) n (number_some e);
      lowest = λ j a. omega (arith, n, (lowest_given rows 0 j (table_rises mid b) a).1);
    }

pub refused_lowest : (mid : ℕ) (b : List ℕ) (e : Refusal) → Allowed mid → read_of mid b ≡ Err e → Lowest mid b (number_of e)
refused_lowest mid b e allowed q = by_table mid b e (sym (read_passes mid b allowed) ∙ q)

-- where a number applies the packet is refused
refused_where : (mid : ℕ) (b : List ℕ) (j : ℕ) → applies j (rows_of mid b) ≡ true
    → lowest_of mid b ≡ Err (refusal_of (first_of (rows_of mid b)))
unfolding lowest_of
refused_where mid b j a =
    go (first_of (rows_of mid b)) (lowest_given (rows_of mid b) 0 j (table_rises mid b) a).0 (reading_of (get_or b 3 0) (get_or b 4 0) (length b))
  where
    go : (n : ℕ) → 0 < n → (r : Packet) → refused_or n r ≡ Err (refusal_of n)
    go zero h r = absurd (omega arith)
    go (suc n) h r = refl

-- the lowest number that applies is the table's
lowest_first : (mid : ℕ) (b : List ℕ) (k : ℕ) → Lowest mid b k → first_of (rows_of mid b) ≡ k
lowest_first mid b k l =
    let given = lowest_given (rows_of mid b) 0 k (table_rises mid b) l.holds in
    let f = given_applies (rows_of mid b) (first_of (rows_of mid b)) refl given.0 in
    omega (arith, given.1, l.lowest (first_of (rows_of mid b)) f)

-- so it has a name
pub lowest_named : (mid : ℕ) (b : List ℕ) (k : ℕ) → Lowest mid b k → Named k
lowest_named mid b k l =
    let given = lowest_given (rows_of mid b) 0 k (table_rises mid b) l.holds in
    subst Named (lowest_first mid b k l) (first_named (rows_of mid b) (table_named mid b) given.0)

-- and the packet is refused by that name
pub lowest_refused : (mid : ℕ) (b : List ℕ) (k : ℕ) → Allowed mid → Lowest mid b k → (read_of mid b ≡ Err (refusal_of k)) × Named k
lowest_refused mid b k allowed l =
    (read_passes mid b allowed ∙ refused_where mid b k l.holds ∙ ap (λ (n : ℕ). Err (refusal_of n)) (lowest_first mid b k l), lowest_named mid b k l)

-- number 11 applies to every reply, whoever reads it: both letters say that more packets follow
eleven : (m mid last : ℕ) (busy sink : Bool) → applies 11 (rows_of m (reply_of mid last busy sink)) ≡ true
unfolding reply_of
eleven m mid last true sink = refl
eleven m mid last false sink = refl

-- so no reply is an accepted packet, for the turned MID or any other: it is 19 by the guard, or what the table says, a number with a name
pub no_packet : (m mid last : ℕ) (busy sink : Bool)
    → (read_of m (reply_of mid last busy sink) ≡ Err (refusal_of (first_of (mid_row m ∷ rows_of m (reply_of mid last busy sink)))))
    × Named (first_of (mid_row m ∷ rows_of m (reply_of mid last busy sink)))
no_packet m mid last busy sink = go (is_forbidden m) refl
  where
    b : List ℕ
    b = reply_of mid last busy sink

    go : (t : Bool) → is_forbidden m ≡ t
        → (read_of m b ≡ Err (refusal_of (first_of (mid_row m ∷ rows_of m b)))) × Named (first_of (mid_row m ∷ rows_of m b))
    go true e =
        let n = sym (mid_stops m (rows_of m b) e) in
        (read_stops m b e ∙ ap (λ (k : ℕ). Err (refusal_of k)) n, subst Named n refl)
    go false e =
        let n = sym (mid_passes m (rows_of m b) e) in
        let a = eleven m mid last busy sink in
        let given = lowest_given (rows_of m b) 0 11 (table_rises m b) a in
        (read_passes m b e ∙ refused_where m b 11 a ∙ ap (λ (k : ℕ). Err (refusal_of k)) n, subst Named n (first_named (rows_of m b) (table_named m b) given.0))
