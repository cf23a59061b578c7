-- An accepted body's commands are exactly those of its tree, its verdict is the tree's ending, and its loops nest no deeper than
-- there was room: so nobody has to believe how the tree is built.
use Prim.Native.Nat.{ℕ, zero, suc, ◌+◌}
use mathlib.Core.List.{List, [], ◌∷◌, map}
use mathlib.Core.Bool.{true, false}
use mathlib.Core.Path.{◌≡◌, refl, sym, ap}
use native.Mathlib.Omega.{arith}
use lib.ListN.{length}
use Rattle.loops.specs.Token.{Act, Part, act, rep, close, forever, again, Tok, good, bad}
use Rattle.judge.specs.Verdict.{Verdict, judge}
use Rattle.loops.specs.declared.Open.{Open}
use Rattle.judge.specs.declared.Ending.TheVariants.{Finite, Endless}
use Rattle.refusal.specs.declared.Fault.{Fault}
use Rattle.refusal.specs.Refusal.{fault}
use Rattle.std.proofs.Common.{Ok, Err}
use Rattle.course.specs.Tree.{Block, stop, one, loop, Ending, ends, starts, ever, Pending, behind, endless, Built, opened, built, build_of, flat, flat_end}

-- the commands behind the block that is being built
abbrev pub tail : List Pending → Ending → List Part
tail [] e = flat_end e
tail (behind b ∷ s) e = close ∷ flat b (tail s e)
tail (endless ∷ s) e = forever ∷ []

-- the verdict that the loops and the ending make
abbrev pub shape : List Pending → Ending → Verdict
shape [] ends = Ok Finite
shape [] starts = Ok Endless
shape [] (ever n z b) = Ok Endless
shape (behind b ∷ s) e = shape s e
shape (endless ∷ s) e = Ok Endless

-- loops at most so deep
abbrev pub Depth : ℕ → Block → Type 0
Depth m stop = Unit
Depth m (one a b) = Depth m b
Depth zero (loop n z body b) = ⊥
Depth (suc m) (loop n z body b) = Depth m body × Depth (suc m) b

abbrev pub Depths : ℕ → List Pending → Type 0
Depths m [] = Unit
Depths m (behind b ∷ s) = Depth (suc m) b × Depths (suc m) s
Depths m (endless ∷ s) = Unit

-- an endless loop is the outermost
abbrev Bottom : List Pending → Type 0
Bottom [] = Unit
Bottom (behind b ∷ s) = Bottom s
Bottom (endless ∷ s) = s ≡ []

pub record Accepted (b : Block) (s : List Pending) (e : Ending) (ts : List Tok) (m held : ℕ) (v : Verdict) : Type 0 where
  pub size : length s ≡ held
  pub parts : ts ≡ map good (flat b (tail s e))
  pub verdict : shape s e ≡ v
  pub deep : Depth m b
  pub deeps : Depths m s
  pub bottom : Bottom s

accepted_act : (b : Block) (s : List Pending) (e : Ending) (ts : List Tok) (m held : ℕ) (v : Verdict) (a : Act) → Accepted b s e ts m held v
    → Accepted (one a b) s e (good (act a) ∷ ts) m held v
accepted_act b s e ts m held v a h =
    record {
      size = h.size;
      parts = ap (λ (r : List Tok). good (act a) ∷ r) h.parts;
      verdict = h.verdict;
      deep = h.deep;
      deeps = h.deeps;
      bottom = h.bottom;
    }

accepted_close : (b : Block) (s : List Pending) (e : Ending) (ts : List Tok) (m held : ℕ) (v : Verdict) → Accepted b s e ts (suc m) held v
    → Accepted stop (behind b ∷ s) e (good close ∷ ts) m (suc held) v
accepted_close b s e ts m held v h =
    record {
      size = ap suc h.size;
      parts = ap (λ (r : List Tok). good close ∷ r) h.parts;
      verdict = h.verdict;
      deep = tt;
      deeps = (h.deep, h.deeps);
      bottom = h.bottom;
    }

-- what a built record holds is accepted
abbrev AcceptedBuilt : Built → List Tok → ℕ → ℕ → Verdict → Type 0
AcceptedBuilt t ts m held v = Accepted t.block t.pending t.ending ts m held v

accepted_rep : (b : Block) (s : List Pending) (e : Ending) (ts : List Tok) (m held : ℕ) (v : Verdict) (n z : ℕ)
    → Accepted b s e ts m (suc held) v
    → AcceptedBuilt (opened n z b s e) (good (rep n z) ∷ ts) (suc m) held v
accepted_rep b [] e ts m held v n z h = absurd (omega (arith, h.size))
accepted_rep b (behind r ∷ s) e ts m held v n z h =
    record {
      size = omega (arith, h.size);
      parts = ap (λ (x : List Tok). good (rep n z) ∷ x) h.parts;
      verdict = h.verdict;
      deep = (h.deep, h.deeps.0);
      deeps = h.deeps.1;
      bottom = h.bottom;
    }
accepted_rep b (endless ∷ []) e ts m held v n z h =
    record {
      size = omega (arith, h.size);
      parts = ap (λ (x : List Tok). good (rep n z) ∷ x) h.parts;
      verdict = h.verdict;
      deep = tt;
      deeps = tt;
      bottom = tt;
    }
accepted_rep b (endless ∷ (r ∷ s)) e ts m held v n z h = let w : r ∷ s ≡ [] = h.bottom in absurd (omega (arith, ap length w))

-- a verdict that is no refusal
abbrev pub Yes : Verdict → Type 0
Yes (Ok e) = Unit
Yes (Err w) = ⊥

refused_no : (w : Fault) (v : Verdict) → Err w ≡ v → Yes v → ⊥
refused_no w (Ok x) e y = let z : ◌≡◌ {A = ℕ} 0 1 = cc in omega arith
refused_no w (Err x) e y = y

-- behind an `F` or `R` nothing stands, and no loop is open
ended : (ts : List Tok) (m p : ℕ) (o : List Open) (v : Verdict) → judge ts m p true o ≡ v → Yes v → (ts ≡ []) × ((o ≡ []) × (v ≡ Ok Endless))
ended [] m p [] v e y = (refl, (refl, sym e))
ended [] m p (l ∷ o) v e y = absurd (refused_no (fault 26 l.caret) v e y)
ended (t ∷ ts) m p o v e y = absurd (refused_no (fault 27 p) v e y)

accepted_forever : (ts : List Tok) (m : ℕ) (o : List Open) (v : Verdict) → (ts ≡ []) × ((o ≡ []) × (v ≡ Ok Endless))
    → AcceptedBuilt (built forever (build_of ts)) (good forever ∷ ts) m (suc (length o)) v
accepted_forever ts m o v h =
    record {
      size = ap (λ (x : List Open). suc (length x)) (sym h.1.0);
      parts = ap (λ (x : List Tok). good forever ∷ x) h.0;
      verdict = sym h.1.1;
      deep = tt;
      deeps = tt;
      bottom = refl;
    }

accepted_again : (ts : List Tok) (m : ℕ) (v : Verdict) (o : List Open) → (ts ≡ []) × ((o ≡ []) × (v ≡ Ok Endless))
    → AcceptedBuilt (built again (build_of ts)) (good again ∷ ts) m 0 v
accepted_again ts m v o h =
    record {
      size = refl;
      parts = ap (λ (x : List Tok). good again ∷ x) h.0;
      verdict = sym h.1.1;
      deep = tt;
      deeps = tt;
      bottom = tt;
    }

-- the judge's yes gives the tree with all its laws
pub accepted : (ts : List Tok) (m p : ℕ) (o : List Open) (v : Verdict) → judge ts m p false o ≡ v → Yes v
    → AcceptedBuilt (build_of ts) ts m (length o) v
accepted [] m p [] v e y = record { size = refl; parts = refl; verdict = e; deep = tt; deeps = tt; bottom = tt }
accepted [] m p (l ∷ o) v e y = absurd (refused_no (fault 26 l.caret) v e y)
accepted (bad w ∷ ts) m p o v e y = absurd (refused_no w v e y)
accepted (good (act a) ∷ ts) m p o v e y =
    let t = build_of ts in
    accepted_act t.block t.pending t.ending ts m (length o) v a (accepted ts m (p + a.size) o v e y)
accepted (good (rep n z) ∷ ts) zero p o v e y = absurd (refused_no (fault 26 p) v e y)
accepted (good (rep n z) ∷ ts) (suc m) p o v e y =
    let t = build_of ts in
    accepted_rep t.block t.pending t.ending ts m (length o) v n z
    (accepted ts m (p + z) (record { caret = p; behind = p + z; number = n } ∷ o) v e y)
accepted (good close ∷ ts) m p [] v e y = absurd (refused_no (fault 26 p) v e y)
accepted (good close ∷ ts) m p (l ∷ o) v e y =
    let t = build_of ts in
    accepted_close t.block t.pending t.ending ts m (length o) v (accepted ts (suc m) (p + 2) o v e y)
accepted (good forever ∷ ts) m p [] v e y = absurd (refused_no (fault 26 p) v e y)
accepted (good forever ∷ ts) m p (l ∷ o) v e y = accepted_forever ts m o v (ended ts (suc m) (p + 2) o v e y)
accepted (good again ∷ ts) m p [] v e y = accepted_again ts m v [] (ended ts m (p + 2) [] v e y)
accepted (good again ∷ ts) m p (l ∷ o) v e y = absurd (refused_no (fault 26 p) v e y)
