-- The refusal that `judge` names is the first in N0's order, and the place that it gets to is where judging stands.
use Prim.Native.Nat.{ℕ, zero, suc, ◌+◌, ◌≤◌, ◌<◌}
use mathlib.Core.Path.{◌≡◌, refl, sym, ap, subst, ◌∙◌}
use mathlib.Core.Bool.{Bool, true, false}
use mathlib.Core.List.{List, [], ◌∷◌}
use mathlib.Core.Logic.{dite}
use native.Mathlib.Omega.{arith}
use native.Mathlib.Decide.{dec_lt}
use borrow.Author.Tests.{le-ltb, lt-ltb, eq-eqb, ne_eqb, ltb-true, ltb-false, eqb-true, eqb-false}
use lib.Dec.{eqb, ltb}
use lib.ListN.{length, get_or}
use Rattle.basis.specs.Choice.{when}
use Rattle.params.specs.Bytes.{caret}
use Rattle.loops.specs.Token.{Part, Tok, good, bad, size_of, get, chain, tokens_of}
use Rattle.loops.specs.Structure.{Structure, broken, kept, structure_of, role_in, opened, moved}
use Rattle.judge.specs.Verdict.{Verdict, end_of, judged, judge, commands_of, judge_of}
use Rattle.grammar.specs.Reach.{Reach, start, past, Begun, Refusal, too_long, no_caret, behind, wrong, loops, unclosed}
use Rattle.loops.specs.declared.Open.{Open}
use Rattle.refusal.specs.declared.Fault.{Fault}
use Rattle.std.proofs.Common.{Err}
use Rattle.refusal.specs.Refusal.{number_of, fault, Named}
use Rattle.refusal.proofs.Names.{err_one, fault_back, number_named}
use Rattle.loops.proofs.Tokens.{get_two, get_within, tokens_first, tokens_none}

as_refusal : (b : List ℕ) (v w : Fault) → ◌≡◌ {A = Verdict} (Err v) (Err w) → Refusal b (number_of v.refusal) v.place → Refusal b (number_of w.refusal) w.place
as_refusal b v w e x = subst (λ (y : Fault). Refusal b (number_of y.refusal) y.place) (err_one e) x

at_end : (b : List ℕ) (p m : ℕ) (w : Fault) (e : Bool) (o : List Open) → Begun b → Reach (get b) 1 p m e o → length b ≤ p → end_of e o ≡ Err w → Refusal b (number_of w.refusal) w.place
at_end b p m w true [] s r h k = let z : ◌≡◌ {A = ℕ} 0 1 = cc in absurd (omega arith)
at_end b p m w false [] s r h k = let z : ◌≡◌ {A = ℕ} 0 1 = cc in absurd (omega arith)
at_end b p m w e (l ∷ o) s r h k = as_refusal b (fault 26 l.caret) w k (unclosed s r h)

-- the command where judging stands, and the rest by induction
at_command : (b : List ℕ) (p m : ℕ) (w : Fault) (e : Bool) (o : List Open) (t : Tok) → get b p ≡ t → Begun b → Reach (get b) 1 p m e o → p < length b → ((c : Part) (m' : ℕ) (e' : Bool) (o' : List Open) → get b p ≡ good c → Reach (get b) 1 (p + size_of c) m' e' o' → judge (tokens_of b (p + size_of c)) m' (p + size_of c) e' o' ≡ Err w → Refusal b (number_of w.refusal) w.place) → judge (chain t (λ z. tokens_of b (p + z))) m p e o ≡ Err w → Refusal b (number_of w.refusal) w.place
at_command b p m w true o (good c) g s r h rest k = as_refusal b (fault 27 p) w k (behind s r h)
at_command b p m w true o (bad x) g s r h rest k = as_refusal b (fault 27 p) w k (behind s r h)
at_command b p m w false o (bad x) g s r h rest k = as_refusal b x w k (wrong s r h g)
at_command b p m w false o (good c) g s r h rest k = by (structure_of (role_in c) m (opened p c) o) refl k
  where
    by : (x : Structure) → structure_of (role_in c) m (opened p c) o ≡ x → judged (moved p (p + size_of c) x) (λ next m' e' o'. judge (tokens_of b (p + size_of c)) m' next e' o') ≡ Err w → Refusal b (number_of w.refusal) w.place
    by broken x k' = as_refusal b (fault 26 p) w k' (loops s r g x)
    by (kept m' e' o') x k' = rest c m' e' o' g (past r g x) k'

from_reached : (b : List ℕ) (w : Fault) (fuel p m : ℕ) (e : Bool) (o : List Open) → length b ≤ p + fuel → Begun b → Reach (get b) 1 p m e o → judge (tokens_of b p) m p e o ≡ Err w → Refusal b (number_of w.refusal) w.place
from_reached b w zero p m e o f s r k =
    let h : length b ≤ p = omega arith in
    at_end b p m w e o s r h (sym (ap (λ (ts : List Tok). judge ts m p e o) (tokens_none b p h)) ∙ k)
from_reached b w (suc fuel) p m e o f s r k = go' (λ c m' e' o' h r' k'. from_reached b w fuel (p + size_of c) m' e' o' h s r' k')
  where
    go' : ((c : Part) (m' : ℕ) (e' : Bool) (o' : List Open) → length b ≤ p + size_of c + fuel → Reach (get b) 1 (p + size_of c) m' e' o' → judge (tokens_of b (p + size_of c)) m' (p + size_of c) e' o' ≡ Err w → Refusal b (number_of w.refusal) w.place) → Refusal b (number_of w.refusal) w.place
    go' rest =
        dite (dec_lt p (length b))
        (λ (l : p < length b).
        at_command b p m w e o (get b p) refl s r l
        (λ c m' e' o' g r' k'. let t = get_two b p c g in rest c m' e' o' (omega arith) r' k')
        (sym (ap (λ (ts : List Tok). judge ts m p e o) (tokens_first b p l)) ∙ k))
        (λ l.
        let h : length b ≤ p = omega arith in
        at_end b p m w e o s r h (sym (ap (λ (ts : List Tok). judge ts m p e o) (tokens_none b p h)) ∙ k))

-- a refused body: its number and place are the first refusal's
pub refused_first : (b : List ℕ) (w : Fault) → judge_of b ≡ Err w → Refusal b (number_of w.refusal) w.place
unfolding judge_of
refused_first b w k = short (ltb 84 (length b)) refl k
  where
    front : (t : Bool) → eqb (get_or b 0 0) caret ≡ t → length b ≤ 84 → when t (commands_of b) (Err (fault 21 0)) ≡ Err w → Refusal b (number_of w.refusal) w.place
    front true f m k' =
        from_reached b w (length b) 0 1 false [] (omega arith) (record { most = m; front = eqb-true (get_or b 0 0) caret f }) start k'
    front false f m k' = as_refusal b (fault 21 0) w k' (no_caret m (eqb-false (get_or b 0 0) caret f))

    short : (t : Bool) → ltb 84 (length b) ≡ t → when t (Err (fault 28 84)) (when (eqb (get_or b 0 0) caret) (commands_of b) (Err (fault 21 0))) ≡ Err w → Refusal b (number_of w.refusal) w.place
    short true f k' = as_refusal b (fault 28 84) w k' (too_long (ltb-true 84 (length b) f))
    short false f k' = front (eqb (get_or b 0 0) caret) refl (ltb-false 84 (length b) f) k'

-- judging gets to where it reaches
pub reach_judge : (b : List ℕ) {p m : ℕ} {e : Bool} {o : List Open} → Reach (get b) 1 p m e o → commands_of b ≡ judge (tokens_of b p) m p e o
reach_judge b start = refl
reach_judge b (past {p = p} {m = m} {o = o} {c = c} r g x) =
    let t = get_two b p c g in
    let w = get_within b p c g in
    let l : p < length b = omega arith in
    reach_judge b r
    ∙ ap (λ (ts : List Tok). judge ts m p false o) (tokens_first b p l)
    ∙ ap (λ (k : Tok). judge (chain k (λ z. tokens_of b (p + z))) m p false o) g
    ∙ ap (λ (k : Structure). judged (moved p (p + size_of c) k) (λ next m' e' o'. judge (tokens_of b (p + size_of c)) m' next e' o')) x

begun_judged : (b : List ℕ) → Begun b → judge_of b ≡ commands_of b
unfolding judge_of
begun_judged b s =
    ap (λ (t : Bool). when t (Err (fault 28 84)) (when (eqb (get_or b 0 0) caret) (commands_of b) (Err (fault 21 0)))) (le-ltb 84 (length b) s.most)
    ∙ ap (λ (t : Bool). when t (commands_of b) (Err (fault 21 0))) (eq-eqb (get_or b 0 0) caret s.front)

ended_stops : (b : List ℕ) (p m : ℕ) (o : List Open) (t : Tok) → judge (chain t (λ z. tokens_of b (p + z))) m p true o ≡ Err (fault 27 p)
ended_stops b p m o (good c) = refl
ended_stops b p m o (bad w) = refl

-- the first refusal is the one that is named, by its name
by_name : (b : List ℕ) (n q : ℕ) → Refusal b n q → judge_of b ≡ Err (fault n q)
unfolding judge_of
by_name b n q (too_long h) =
    ap (λ (t : Bool). when t (Err (fault 28 84)) (when (eqb (get_or b 0 0) caret) (commands_of b) (Err (fault 21 0)))) (lt-ltb 84 (length b) h)
by_name b n q (no_caret h k) =
    ap (λ (t : Bool). when t (Err (fault 28 84)) (when (eqb (get_or b 0 0) caret) (commands_of b) (Err (fault 21 0)))) (le-ltb 84 (length b) h)
    ∙ ap (λ (t : Bool). when t (commands_of b) (Err (fault 21 0))) (ne_eqb (get_or b 0 0) caret k)
by_name b n q (behind {p = p} {m = m} {o = o} s r h) =
    begun_judged b s
    ∙ reach_judge b r
    ∙ ap (λ (ts : List Tok). judge ts m p true o) (tokens_first b p h)
    ∙ ended_stops b p m o (get b p)
by_name b n q (wrong {p = p} {m = m} {w = w} {o = o} s r h g) =
    begun_judged b s
    ∙ reach_judge b r
    ∙ ap (λ (ts : List Tok). judge ts m p false o) (tokens_first b p h)
    ∙ ap (λ (k : Tok). judge (chain k (λ z. tokens_of b (p + z))) m p false o) g
    ∙ ap Err (sym (fault_back w))
by_name b n q (loops {p = p} {m = m} {o = o} {c = c} s r g x) =
    let t = get_two b p c g in
    let w = get_within b p c g in
    let h : p < length b = omega arith in
    begun_judged b s
    ∙ reach_judge b r
    ∙ ap (λ (ts : List Tok). judge ts m p false o) (tokens_first b p h)
    ∙ ap (λ (k : Tok). judge (chain k (λ z. tokens_of b (p + z))) m p false o) g
    ∙ ap (λ (k : Structure). judged (moved p (p + size_of c) k) (λ next m' e' o'. judge (tokens_of b (p + size_of c)) m' next e' o')) x
by_name b n q (unclosed {p = p} {m = m} {e = e} {l = l} {o = o} s r h) =
    begun_judged b s
    ∙ reach_judge b r
    ∙ ap (λ (ts : List Tok). judge ts m p e (l ∷ o)) (tokens_none b p h)

-- the number of a refusal has a name
pub refusal_named : (b : List ℕ) (n q : ℕ) → Refusal b n q → Named n
refusal_named b n q (too_long h) = refl
refusal_named b n q (no_caret h k) = refl
refusal_named b n q (behind s r h) = refl
refusal_named b n q (wrong {w = w} s r h g) = number_named w.refusal
refusal_named b n q (loops s r g x) = refl
refusal_named b n q (unclosed s r h) = refl

-- so judging gives its number and its place
pub first_refused : (b : List ℕ) (n q : ℕ) → Refusal b n q → (judge_of b ≡ Err (fault n q)) × Named n
first_refused b n q x = (by_name b n q x, refusal_named b n q x)

-- so a body has one refusal at most, and an accepted one has none
pub one_refusal : (b : List ℕ) (n q k r : ℕ) → Refusal b n q → Refusal b k r → (n ≡ k) × (q ≡ r)
one_refusal b n q k r x y =
    let e : fault n q ≡ fault k r = err_one (sym (by_name b n q x) ∙ by_name b k r y) in
    (sym (refusal_named b n q x) ∙ ap (λ (w : Fault). number_of w.refusal) e ∙ refusal_named b k r y, ap (λ (w : Fault). w.place) e)
