-- `stand` says of a place what judging from the left gets to there: exactly the places at a command of an accepted body stand
-- anywhere, and the loop named is the innermost of those open there.
use Prim.Native.Nat.{ℕ, zero, suc, ◌+◌, ◌≤◌, ◌<◌}
use mathlib.Core.Path.{◌≡◌, refl, sym, ap, subst, ◌∙◌}
use mathlib.Core.Bool.{Bool, true, false}
use mathlib.Core.List.{List, [], ◌∷◌}
use mathlib.Core.Logic.{dite}
use native.Mathlib.Omega.{arith}
use native.Mathlib.Decide.{dec_lt}
use borrow.Author.Tests.{eq-eqb, ne_eqb, eqb-true}
use lib.Dec.{eqb}
use lib.ListN.{length}
use Rattle.basis.specs.Choice.{when}
use Rattle.loops.specs.Token.{Part, Tok, good, bad, size_of, get, chain, tokens_of}
use Rattle.loops.specs.Structure.{Structure, broken, kept, structure_of, role_in, opened, moved, move_of}
use Rattle.judge.specs.Verdict.{Verdict, judge_of}
use Rattle.judge.specs.Standing.{inside_of, stood, stand_at, of_accepted, stand_of}
use Rattle.grammar.specs.Grammar.{accepted_as}
use Rattle.grammar.specs.Reach.{Reach, start, past}
use Rattle.loops.specs.declared.Open.{Open}
use Rattle.judge.specs.declared.Ending.TheVariants.{Finite, Endless}
use Rattle.std.proofs.Common.{Ok, Err, Option, Some, None}
use Rattle.judge.specs.declared.Standing.{Standing}
use Rattle.loops.proofs.Tokens.{get_two, get_within, tokens_first, tokens_none}

-- a place at a command of an accepted body, and how it stands there
pub record At (b : List ℕ) (q : ℕ) (s : Option Standing) : Type 0 where
  pub endless : Bool
  pub accepted : judge_of b ≡ accepted_as endless
  pub within : q < length b
  pub room : ℕ
  pub ended : Bool
  pub opens : List Open
  pub reached : Reach (get b) 1 q room ended opens
  pub stands : s ≡ Some (inside_of opens)

abbrev passed : ℕ → Tok → List Tok → (m p : ℕ) → Bool → List Open → Option Standing
passed q t ts m p e o = stood (move_of t m p e o) (λ next m' e' o'. stand_at q ts m' next e' o')

-- the place is looked for as far as judging reaches before it
reach_stand : (b : List ℕ) {p m : ℕ} {e : Bool} {o : List Open} (q : ℕ) → Reach (get b) 1 p m e o → p ≤ q → stand_at q (tokens_of b 0) 1 0 false [] ≡ stand_at q (tokens_of b p) m p e o
reach_stand b q start h = refl
reach_stand b q (past {p = p} {m = m} {o = o} {c = c} r g x) h =
    let t = get_two b p c g in
    let w = get_within b p c g in
    let l : p < length b = omega arith in
    let before : p ≤ q = omega arith in
    reach_stand b q r before
    ∙ ap (λ (ts : List Tok). stand_at q ts m p false o) (tokens_first b p l)
    ∙ ap (λ (k : Tok). stand_at q (chain k (λ z. tokens_of b (p + z))) m p false o) g
    ∙ ap (λ (k : Bool). when k (Some (inside_of o)) (passed q (good c) (tokens_of b (p + size_of c)) m p false o)) (ne_eqb p q (λ k. omega arith))
    ∙ ap (λ (k : Structure). stood (moved p (p + size_of c) k) (λ next m' e' o'. stand_at q (tokens_of b (p + size_of c)) m' next e' o')) x

here : (b : List ℕ) (q m : ℕ) (e : Bool) (o : List Open) (t : Tok) → stand_at q (chain t (λ z. tokens_of b (q + z))) m q e o ≡ Some (inside_of o)
here b q m e o (good c) = ap (λ (k : Bool). when k (Some (inside_of o)) (passed q (good c) (tokens_of b (q + size_of c)) m q e o)) (eq-eqb q q refl)
here b q m e o (bad w) = ap (λ (k : Bool). when k (Some (inside_of o)) (passed q (bad w) [] m q e o)) (eq-eqb q q refl)

of_accepted_lem : (v : Verdict) (e : Bool) (s : Option Standing) → v ≡ accepted_as e → of_accepted v s ≡ s
of_accepted_lem v true s h = ap (λ (k : Verdict). of_accepted k s) h
of_accepted_lem v false s h = ap (λ (k : Verdict). of_accepted k s) h

-- a place that is reached stands so
pub at_stands : (b : List ℕ) (q : ℕ) (s : Option Standing) → At b q s → stand_of b q ≡ s
unfolding stand_of
at_stands b q s a =
    of_accepted_lem (judge_of b) a.endless (stand_at q (tokens_of b 0) 1 0 false []) a.accepted
    ∙ reach_stand b q a.reached (omega arith)
    ∙ ap (λ (ts : List Tok). stand_at q ts a.room q a.ended a.opens) (tokens_first b q a.within)
    ∙ here b q a.room a.ended a.opens (get b q)
    ∙ sym a.stands

-- what is found on the way: the place, and where judging stands there
record Found (b : List ℕ) (q : ℕ) (s : Option Standing) : Type 0 where
  within : q < length b
  room : ℕ
  ended : Bool
  opens : List Open
  reached : Reach (get b) 1 q room ended opens
  stands : s ≡ Some (inside_of opens)

module _ (b : List ℕ) (q : ℕ) (s : Option Standing) (some : s ≡ None → ⊥) where
  at_place : (p m : ℕ) (e : Bool) (o : List Open) → Reach (get b) 1 p m e o → p < length b → p ≡ q → Some (inside_of o) ≡ s → Found b q s
  at_place p m e o r l h k =
      record { within = subst (λ (x : ℕ). x < length b) h l; room = m; ended = e; opens = o; reached = subst (λ (x : ℕ). Reach (get b) 1 x m e o) h r; stands = sym k }

  at_command : (p m : ℕ) (e : Bool) (o : List Open) (t : Tok) → get b p ≡ t → Reach (get b) 1 p m e o → p < length b → ((c : Part) (m' : ℕ) (e' : Bool) (o' : List Open) → get b p ≡ good c → Reach (get b) 1 (p + size_of c) m' e' o' → stand_at q (tokens_of b (p + size_of c)) m' (p + size_of c) e' o' ≡ s → Found b q s) → (k : Bool) → eqb p q ≡ k → (x : List Tok) → chain t (λ z. tokens_of b (p + z)) ≡ t ∷ x → when k (Some (inside_of o)) (passed q t x m p e o) ≡ s → Found b q s
  at_command p m e o t g r l rest true f x y k = at_place p m e o r l (eqb-true p q f) k
  at_command p m true o t g r l rest false f x y k = absurd (some (sym k))
  at_command p m false o (bad w) g r l rest false f x y k = absurd (some (sym k))
  at_command p m false o (good c) g r l rest false f x y k = by (structure_of (role_in c) m (opened p c) o) refl k
    where
      by : (z : Structure) → structure_of (role_in c) m (opened p c) o ≡ z → stood (moved p (p + size_of c) z) (λ next m' e' o'. stand_at q x m' next e' o') ≡ s → Found b q s
      by broken z k' = absurd (some (sym k'))
      by (kept m' e' o') z k' =
          let tail : tokens_of b (p + size_of c) ≡ x = cc in
          rest c m' e' o' g (past r g z) (ap (λ (ts : List Tok). stand_at q ts m' (p + size_of c) e' o') tail ∙ k')

  found : (fuel p m : ℕ) (e : Bool) (o : List Open) → length b ≤ p + fuel → Reach (get b) 1 p m e o → stand_at q (tokens_of b p) m p e o ≡ s → Found b q s
  found zero p m e o f r k =
      let h : length b ≤ p = omega arith in
      absurd (some (sym k ∙ ap (λ (ts : List Tok). stand_at q ts m p e o) (tokens_none b p h)))
  found (suc fuel) p m e o f r k = go' (λ c m' e' o' h r' k'. found fuel (p + size_of c) m' e' o' h r' k')
    where
      cons : (t : Tok) → get b p ≡ t → p < length b → ((c : Part) (m' : ℕ) (e' : Bool) (o' : List Open) → get b p ≡ good c → Reach (get b) 1 (p + size_of c) m' e' o' → stand_at q (tokens_of b (p + size_of c)) m' (p + size_of c) e' o' ≡ s → Found b q s) → stand_at q (chain t (λ z. tokens_of b (p + z))) m p e o ≡ s → Found b q s
      cons (good c) g l rest k' = at_command p m e o (good c) g r l rest (eqb p q) refl (tokens_of b (p + size_of c)) refl k'
      cons (bad w) g l rest k' = at_command p m e o (bad w) g r l rest (eqb p q) refl [] refl k'

      go' : ((c : Part) (m' : ℕ) (e' : Bool) (o' : List Open) → length b ≤ p + size_of c + fuel → Reach (get b) 1 (p + size_of c) m' e' o' → stand_at q (tokens_of b (p + size_of c)) m' (p + size_of c) e' o' ≡ s → Found b q s) → Found b q s
      go' rest =
          dite (dec_lt p (length b))
          (λ (l : p < length b).
          cons (get b p) refl l
          (λ c m' e' o' g r' k'. let t = get_two b p c g in rest c m' e' o' (omega arith) r' k')
          (sym (ap (λ (ts : List Tok). stand_at q ts m p e o) (tokens_first b p l)) ∙ k))
          (λ l.
          let h : length b ≤ p = omega arith in
          absurd (some (sym k ∙ ap (λ (ts : List Tok). stand_at q ts m p e o) (tokens_none b p h))))

-- a place that stands anywhere is reached
pub stands_at : (b : List ℕ) (q : ℕ) (s : Option Standing) → stand_of b q ≡ s → (s ≡ None → ⊥) → At b q s
unfolding stand_of
stands_at b q s h some = by (judge_of b) refl h
  where
    from : (e : Bool) → judge_of b ≡ accepted_as e → stand_at q (tokens_of b 0) 1 0 false [] ≡ s → At b q s
    from e v k =
        let f = found b q s some (length b) 0 1 false [] (omega arith) start k in
        record {
          endless = e;
          accepted = v;
          within = f.within;
          room = f.room;
          ended = f.ended;
          opens = f.opens;
          reached = f.reached;
          stands = f.stands;
        }

    by : (v : Verdict) → judge_of b ≡ v → of_accepted v (stand_at q (tokens_of b 0) 1 0 false []) ≡ s → At b q s
    by (Ok Finite) v k = from false v k
    by (Ok Endless) v k = from true v k
    by (Err w) v k = absurd (some (sym k))
