-- A place at a command of an accepted body: a good command stands there, the rule of loops keeps it, and the enclosing loop was
-- opened before, at a place where it stands open too.
use Prim.Native.Nat.{ℕ, zero, suc, ◌+◌, ◌≤◌}
use mathlib.Core.List.{List, [], ◌∷◌}
use mathlib.Core.Bool.{Bool, true, false}
use mathlib.Core.Path.{◌≡◌, refl, sym, ap, ◌∙◌, subst}
use native.Mathlib.Omega.{arith}
use lib.ListN.{length}
use Rattle.loops.specs.Token.{Part, act, rep, close, forever, again, Tok, good, bad, size_of, get, chain, tokens_of}
use Rattle.loops.specs.Structure.{Structure, broken, kept, structure_of, role_in, opened, moved}
use Rattle.judge.specs.Verdict.{Verdict, judge, judged}
use Rattle.grammar.specs.Grammar.{accepted_as}
use Rattle.grammar.specs.Reach.{Reach, start, past}
use Rattle.loops.specs.declared.Open.{Open}
use Rattle.refusal.specs.declared.Fault.{Fault}
use Rattle.refusal.specs.Refusal.{fault}
use Rattle.std.proofs.Common.{Ok, Err, Option}
use Rattle.judge.specs.declared.Standing.{Standing}
use Rattle.grammar.proofs.Refusals.{reach_judge}
use Rattle.grammar.proofs.Standings.{At}
use Rattle.loops.proofs.Tokens.{tokens_first}
use Rattle.course.proofs.Accepts.{Yes}
use Rattle.loops.proofs.Values.{get_loop}
use Rattle.course.proofs.Programs.{accepting}

-- the loops that are open and those that may be opened are one together
kept_one : (c : Part) (p m m' : ℕ) (e' : Bool) (o o' : List Open) → m + length o ≡ 1 → structure_of (role_in c) m (opened p c) o ≡ kept m' e' o'
    → m' + length o' ≡ 1
kept_one (act a) p m m' e' o o' h x = let a1 : m ≡ m' = cc in let a2 : o ≡ o' = cc in omega (arith, ap length a2)
kept_one (rep n z) p zero m' e' o o' h x = let w : ◌≡◌ {A = ℕ} 0 1 = cc in absurd (omega arith)
kept_one (rep n z) p (suc m) m' e' o o' h x =
    let a1 : m ≡ m' = cc in
    let a2 : opened p (rep n z) ∷ o ≡ o' = cc in
    omega (arith, ap length a2)
kept_one close p m m' e' [] o' h x = let w : ◌≡◌ {A = ℕ} 0 1 = cc in absurd (omega arith)
kept_one close p m m' e' (l ∷ o) o' h x = let a1 : suc m ≡ m' = cc in let a2 : o ≡ o' = cc in omega (arith, ap length a2)
kept_one forever p m m' e' [] o' h x = let w : ◌≡◌ {A = ℕ} 0 1 = cc in absurd (omega arith)
kept_one forever p m m' e' (l ∷ o) o' h x = let a1 : suc m ≡ m' = cc in let a2 : o ≡ o' = cc in omega (arith, ap length a2)
kept_one again p m m' e' [] o' h x = let a1 : m ≡ m' = cc in let a2 : ◌≡◌ {A = List Open} [] o' = cc in omega (arith, ap length a2)
kept_one again p m m' e' (l ∷ o) o' h x = let w : ◌≡◌ {A = ℕ} 0 1 = cc in absurd (omega arith)

pub reach_one : (b : List ℕ) {p m : ℕ} {e : Bool} {o : List Open} → Reach (get b) 1 p m e o → m + length o ≡ 1
reach_one b start = omega arith
reach_one b (past {p = p} {m = m} {m' = m'} {o = o} {o' = o'} {e' = e'} {c = c} r g x) = kept_one c p m m' e' o o' (reach_one b r) x

-- the innermost open loop was opened behind its `L`, at or before this place
pub record Opened (b : List ℕ) (p : ℕ) (l : Open) : Type 0 where
  pub room : ℕ
  pub reached : Reach (get b) 1 l.behind room false (l ∷ [])
  pub before : l.behind ≤ p
  pub least : 1 ≤ l.number
  pub most : l.number ≤ 99

abbrev pub Opens : List ℕ → ℕ → List Open → Type 0
Opens b p [] = Unit
Opens b p (l ∷ []) = Opened b p l
Opens b p (l ∷ k ∷ o) = ⊥

later : (b : List ℕ) (p q : ℕ) (o : List Open) → p ≤ q → Opens b p o → Opens b q o
later b p q [] h w = tt
later b p q (l ∷ []) h w = record { room = w.room; reached = w.reached; before = omega (arith, w.before); least = w.least; most = w.most }
later b p q (l ∷ k ∷ o) h w = w

no_more : (b : List ℕ) (p m : ℕ) (o : List Open) → m + suc (length o) ≡ 1 → Opens b p o
no_more b p m [] h = tt
no_more b p m (l ∷ o) h = absurd (omega arith)

opens_next : (b : List ℕ) (p m m' : ℕ) (e' : Bool) (o o' : List Open) (c : Part) → Reach (get b) 1 p m false o → get b p ≡ good c
    → structure_of (role_in c) m (opened p c) o ≡ kept m' e' o'
    → Opens b p o
    → Opens b (p + size_of c) o'
opens_next b p m m' e' o o' (act a) r g x w =
    let a2 : o ≡ o' = cc in
    subst (Opens b (p + a.size)) a2 (later b p (p + a.size) o (omega arith) w)
opens_next b p zero m' e' o o' (rep n z) r g x w = let k : ◌≡◌ {A = ℕ} 0 1 = cc in absurd (omega arith)
opens_next b p (suc m) m' e' [] o' (rep n z) r g x w =
    let a2 : opened p (rep n z) ∷ [] ≡ o' = cc in
    let l = get_loop b p n z g in
    subst (Opens b (p + z)) a2
    (record { room = m; reached = past r g refl; before = omega arith; least = l.least; most = l.most })
opens_next b p (suc m) m' e' (l ∷ o) o' (rep n z) r g x w = absurd (omega (arith, reach_one b r))
opens_next b p m m' e' [] o' close r g x w = let k : ◌≡◌ {A = ℕ} 0 1 = cc in absurd (omega arith)
opens_next b p m m' e' (l ∷ o) o' close r g x w =
    let a2 : o ≡ o' = cc in
    subst (Opens b (p + 2)) a2 (no_more b (p + 2) m o (reach_one b r))
opens_next b p m m' e' [] o' forever r g x w = let k : ◌≡◌ {A = ℕ} 0 1 = cc in absurd (omega arith)
opens_next b p m m' e' (l ∷ o) o' forever r g x w =
    let a2 : o ≡ o' = cc in
    subst (Opens b (p + 2)) a2 (no_more b (p + 2) m o (reach_one b r))
opens_next b p m m' e' [] o' again r g x w = let a2 : ◌≡◌ {A = List Open} [] o' = cc in subst (Opens b (p + 2)) a2 tt
opens_next b p m m' e' (l ∷ o) o' again r g x w = let k : ◌≡◌ {A = ℕ} 0 1 = cc in absurd (omega arith)

pub reach_opens : (b : List ℕ) {p m : ℕ} {e : Bool} {o : List Open} → Reach (get b) 1 p m e o → Opens b p o
reach_opens b start = tt
reach_opens b (past {p = p} {m = m} {m' = m'} {o = o} {o' = o'} {e' = e'} {c = c} r g x) =
    opens_next b p m m' e' o o' c r g x (reach_opens b r)

-- what stands at a place where judging of an accepted body stands: a good command that the rule of loops keeps
pub record Here (b : List ℕ) (p m : ℕ) (e : Bool) (o : List Open) : Type 0 where
  pub part : Part
  pub there : get b p ≡ good part
  pub going : e ≡ false
  pub room : ℕ
  pub ended : Bool
  pub opens : List Open
  pub stays : structure_of (role_in part) m (opened p part) o ≡ kept room ended opens

refusal_no : (w : Fault) (v : Verdict) → Err w ≡ v → Yes v → ⊥
refusal_no w (Ok x) e y = let z : ◌≡◌ {A = ℕ} 0 1 = cc in omega arith
refusal_no w (Err x) e y = y

here_by : (b : List ℕ) (p m : ℕ) (e : Bool) (o : List Open) (v : Verdict) (t : Tok) → get b p ≡ t
    → judge (chain t (λ z. tokens_of b (p + z))) m p e o ≡ v
    → Yes v
    → Here b p m e o
here_by b p m true o v (good c) g j y = absurd (refusal_no (fault 27 p) v j y)
here_by b p m true o v (bad w) g j y = absurd (refusal_no (fault 27 p) v j y)
here_by b p m false o v (bad w) g j y = absurd (refusal_no w v j y)
here_by b p m false o v (good c) g j y = go (structure_of (role_in c) m (opened p c) o) refl j
  where
    go : (s : Structure) → structure_of (role_in c) m (opened p c) o ≡ s
        → judged (moved p (p + size_of c) s) (λ next m' e' o'. judge (tokens_of b (p + size_of c)) m' next e' o') ≡ v
        → Here b p m false o
    go broken q w = absurd (refusal_no (fault 26 p) v w y)
    go (kept m' e' o') q w = record { part = c; there = g; going = refl; room = m'; ended = e'; opens = o'; stays = q }

pub accepted_yes : (e : Bool) → Yes (accepted_as e)
accepted_yes true = tt
accepted_yes false = tt

pub here : (b : List ℕ) (p : ℕ) (s : Option Standing) (a : At b p s) → Here b p a.room a.ended a.opens
here b p s a =
    let v = accepted_as a.endless in
    let y = accepted_yes a.endless in
    let c = (accepting b v a.accepted y).1.1 in
    let j = sym (reach_judge b a.reached) ∙ c in
    here_by b p a.room a.ended a.opens v (get b p) refl
    (sym (ap (λ (ts : List Tok). judge ts a.room p a.ended a.opens) (tokens_first b p a.within)) ∙ j)
    y
