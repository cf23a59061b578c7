-- The room of a collection: data laid into one slot, which leaves the others.
use Prim.Native.Nat.{ℕ, suc, ◌+◌, ◌-◌, ◌*◌, ◌≤◌}
use mathlib.Core.List.{List, ◌++◌, append_assoc}
use mathlib.Core.Path.{◌≡◌, sym, ap, ◌∙◌}
use native.Mathlib.Omega.{arith}
use lib.ListN.{length, take, drop, length-append, length-drop, take-append-drop}
use lib.Seq.{drop-append-le, drop-drop, take-add, take-length, length-take-le}
use Rattle.basis.specs.Bytes.{laid}

-- a part lent to a copy comes back with the data at its front, and so does the whole room
pub slot_lays : (o part y : List ℕ) (at : ℕ) → at + 14 ≤ length o → length part ≤ 14
    → y ≡ take (length part) part ++ drop (length part) (take (at + 14 - at) (drop at o))
    → take at o ++ (y ++ drop (at + 14 - at) (drop at o)) ≡ laid (take at o ++ part) o
unfolding laid
slot_lays o part y at fits few e =
    let d = drop at o in
    let n = length part in
    let k = at + 14 - at in
    let ld : length d ≡ length o - at = length-drop at o in
    let kd : k ≤ length d = omega arith in
    let short : n ≤ length (take k d) = omega (arith, length-take-le k d kd) in
    let whole : length (take at o ++ part) ≡ at + n = omega (arith, length-append (take at o) part, length-take-le at o (omega arith)) in
    let rest : drop n (take k d) ++ drop k d ≡ drop (length (take at o ++ part)) o =
    sym (drop-append-le n (take k d) (drop k d) short)
    ∙ ap (drop n) (take-append-drop k d)
    ∙ drop-drop n at o
    ∙ ap (λ (m : ℕ). drop m o) (sym whole) in
    ap (λ (x : List ℕ). take at o ++ (x ++ drop k d)) (e ∙ ap (λ (x : List ℕ). x ++ drop n (take k d)) (take-length part))
    ∙ ap (λ (x : List ℕ). take at o ++ x) (append_assoc part (drop n (take k d)) (drop k d) ∙ ap (λ (x : List ℕ). part ++ x) rest)
    ∙ sym (append_assoc (take at o) part (drop (length (take at o ++ part)) o))

-- a slot behind the first: the first 14 bytes stay, and the rest takes the data at the position before
pub laid_on : (o part : List ℕ) (p : ℕ) → 14 * suc p + 14 ≤ length o
    → laid (take (14 * suc p) o ++ part) o ≡ take 14 o ++ laid (take (14 * p) (drop 14 o) ++ part) (drop 14 o)
unfolding laid
laid_on o part p fits =
    let q = 14 * p in
    let d = drop 14 o in
    let e : 14 * suc p ≡ 14 + q = omega arith in
    let cut : take (14 * suc p) o ≡ take 14 o ++ take q d = ap (λ (n : ℕ). take n o) e ∙ take-add 14 q o in
    let ld : length d ≡ length o - 14 = length-drop 14 o in
    let l : length (take q d ++ part) ≡ q + length part = omega (arith, length-append (take q d) part, length-take-le q d (omega arith)) in
    let whole : length ((take 14 o ++ take q d) ++ part) ≡ 14 + (q + length part) =
    omega (arith, length-append (take 14 o ++ take q d) part, length-append (take 14 o) (take q d), length-take-le 14 o (omega arith), length-take-le q d (omega arith)) in
    let rest : drop (14 + (q + length part)) o ≡ drop (length (take q d ++ part)) d =
    sym (drop-drop (q + length part) 14 o) ∙ ap (λ (n : ℕ). drop n d) (sym l) in
    ap (λ (x : List ℕ). (x ++ part) ++ drop (length (x ++ part)) o) cut
    ∙ ap (λ (n : ℕ). ((take 14 o ++ take q d) ++ part) ++ drop n o) whole
    ∙ ap (λ (x : List ℕ). ((take 14 o ++ take q d) ++ part) ++ x) rest
    ∙ ap (λ (x : List ℕ). x ++ drop (length (take q d ++ part)) d) (append_assoc (take 14 o) (take q d) part)
    ∙ append_assoc (take 14 o) (take q d ++ part) (drop (length (take q d ++ part)) d)
