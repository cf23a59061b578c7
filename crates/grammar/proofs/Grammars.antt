-- `judge` accepts exactly the bodies that the grammar describes.
use Prim.Native.Nat.{ℕ, ◌+◌, ◌≤◌, ◌<◌}
use mathlib.Core.Path.{◌≡◌, refl, sym, ap, subst, ◌∙◌}
use mathlib.Core.Bool.{Bool, true, false}
use mathlib.Core.List.{List, [], ◌∷◌}
use mathlib.Core.Logic.{dite}
use native.Mathlib.Omega.{arith}
use native.Mathlib.Decide.{dec_lt}
use borrow.Author.Tests.{le-ltb, eq-eqb, ltb-false, eqb-true}
use lib.Dec.{eqb, ltb}
use lib.ListN.{length, get_or}
use Rattle.basis.specs.Choice.{when}
use Rattle.params.specs.Bytes.{caret}
use Rattle.loops.specs.Token.{Act, Part, act, rep, close, forever, again, Tok, good, bad, size_of, get, chain, tokens_of}
use Rattle.loops.specs.Structure.{opened}
use Rattle.judge.specs.Verdict.{judge, commands_of, judge_of}
use Rattle.grammar.specs.Grammar.{Tiled, done, more, acts, Program, ends, over, ever, one, loop, Described, accepted_as}
use Rattle.loops.specs.declared.Open.{Open}
use Rattle.judge.specs.declared.Ending.TheVariants.{Finite, Endless}
use Rattle.refusal.specs.declared.Fault.{Fault}
use Rattle.refusal.specs.Refusal.{fault}
use Rattle.std.proofs.Common.{Ok, Err}
use Rattle.loops.proofs.Tokens.{get_two, get_within, get_caret, tokens_first, tokens_none}

-- commands as tokens
abbrev goods : List Part → List Tok
goods [] = []
goods (c ∷ cs) = good c ∷ goods cs

-- a program is accepted, wherever it starts
pub program_accepted : {cs : List Part} {e : Bool} → Program cs e → (p : ℕ) → judge (goods cs) 1 p false [] ≡ accepted_as e
program_accepted ends p = refl
program_accepted over p = refl
program_accepted (ever {n = n} {z = z} ys) p = closing ys (p + z)
  where
    closing : (ys : List Act) (q : ℕ) → judge (goods (acts ys (forever ∷ []))) 0 q false (opened p (rep n z) ∷ []) ≡ Ok Endless
    closing [] q = refl
    closing (a ∷ ys) q = closing ys (q + a.size)
program_accepted (one {a = a} s) p = program_accepted s (p + a.size)
program_accepted (loop {n = n} {z = z} {cs = cs} {e = e} ys s) p = closing (λ q. program_accepted s q) ys (p + z)
  where
    closing : ((q : ℕ) → judge (goods cs) 1 q false [] ≡ accepted_as e) → (ys : List Act) (q : ℕ) → judge (goods (acts ys (close ∷ cs))) 0 q false (opened p (rep n z) ∷ []) ≡ accepted_as e
    closing h [] q = h (q + 2)
    closing h (a ∷ ys) q = closing h ys (q + a.size)

-- tiled commands are the body's tokens
pub tiled_tokens : {b : List ℕ} {p : ℕ} {cs : List Part} → Tiled b p cs → tokens_of b p ≡ goods cs
tiled_tokens {b} {p} (done e) = let h : length b ≤ p = omega arith in tokens_none b p h
tiled_tokens {b} {p} (more {c = c} e t) =
    let n = get_two b p c e in
    let w = get_within b p c e in
    let h : p < length b = omega arith in
    tokens_first b p h
    ∙ ap (λ (k : Tok). chain k (λ z. tokens_of b (p + z))) e
    ∙ ap (λ (ts : List Tok). good c ∷ ts) (tiled_tokens t)

first_caret : {b : List ℕ} {cs : List Part} → 1 ≤ length b → Tiled b 0 cs → get_or b 0 0 ≡ caret
first_caret {b} h (done e) = absurd (omega arith)
first_caret {b} h (more {c = c} e t) = get_caret b 0 c e

-- a body that the grammar describes is accepted
pub described_accepted : (b : List ℕ) (e : Bool) → Described b e → judge_of b ≡ accepted_as e
unfolding judge_of
described_accepted b e d =
    ap (λ (t : Bool). when t (Err (fault 28 84)) (when (eqb (get_or b 0 0) caret) (commands_of b) (Err (fault 21 0)))) (le-ltb 84 (length b) d.most)
    ∙ ap (λ (t : Bool). when t (commands_of b) (Err (fault 21 0))) (eq-eqb (get_or b 0 0) caret (first_caret d.some d.tiled))
    ∙ ap (λ (ts : List Tok). judge ts 1 0 false []) (tiled_tokens d.tiled)
    ∙ program_accepted d.program 0

refused_not : (w : Fault) (e : Bool) → Err w ≡ accepted_as e → ⊥
refused_not w true h = let z : ◌≡◌ {A = ℕ} 0 1 = cc in omega arith
refused_not w false h = let z : ◌≡◌ {A = ℕ} 0 1 = cc in omega arith

-- what closes an open loop: an `E` and the rest of the program, or an `F` as the last
data Closed (ts : List Tok) (e : Bool) : Type 0 where
  by_close : (ys : List Act) (cs : List Part) → ts ≡ goods (acts ys (close ∷ cs)) → Program cs e → Closed ts e
  by_forever : (ys : List Act) → ts ≡ goods (acts ys (forever ∷ [])) → e ≡ true → Closed ts e

pub record Outside (ts : List Tok) (e : Bool) : Type 0 where
  pub commands : List Part
  pub same : ts ≡ goods commands
  pub program : Program commands e

record Both (ts : List Tok) : Type 0 where
  outside : (p : ℕ) (e : Bool) → judge ts 1 p false [] ≡ accepted_as e → Outside ts e
  inside : (p : ℕ) (e : Bool) (l : Open) → judge ts 0 p false (l ∷ []) ≡ accepted_as e → Closed ts e

at_end : (ts : List Tok) (p : ℕ) (e : Bool) → judge ts 1 p true [] ≡ accepted_as e → (ts ≡ []) × (e ≡ true)
at_end [] p true h = (refl, refl)
at_end [] p false h = let z : ◌≡◌ {A = ℕ} 0 1 = cc in absurd (omega arith)
at_end (t ∷ ts) p e h = absurd (refused_not (fault 27 p) e h)

finished : (e : Bool) → Ok Finite ≡ accepted_as e → Program [] e
finished true h = let z : ◌≡◌ {A = ℕ} 0 1 = cc in absurd (omega arith)
finished false h = ends

one_more : (a : Act) (ts : List Tok) (e : Bool) → Closed ts e → Closed (good (act a) ∷ ts) e
one_more a ts e (by_close ys cs h s) = by_close (a ∷ ys) cs (ap (λ (x : List Tok). good (act a) ∷ x) h) s
one_more a ts e (by_forever ys h s) = by_forever (a ∷ ys) (ap (λ (x : List Tok). good (act a) ∷ x) h) s

looped : (n z : ℕ) (ts : List Tok) (e : Bool) → Closed ts e → Outside (good (rep n z) ∷ ts) e
looped n z ts e (by_close ys cs h s) =
    record { commands = rep n z ∷ acts ys (close ∷ cs); same = ap (λ (x : List Tok). good (rep n z) ∷ x) h; program = loop ys s }
looped n z ts e (by_forever ys h s) =
    record {
      commands = rep n z ∷ acts ys (forever ∷ []);
      same = ap (λ (x : List Tok). good (rep n z) ∷ x) h;
      program = subst (Program (rep n z ∷ acts ys (forever ∷ []))) (sym s) (ever ys);
    }

both : (ts : List Tok) → Both ts
both [] =
    record {
      outside = λ p e h. record { commands = []; same = refl; program = finished e h };
      inside = λ p e l h. absurd (refused_not (fault 26 l.caret) e h);
    }
both (bad w ∷ ts) =
    record {
      outside = λ p e h. absurd (refused_not w e h);
      inside = λ p e l h. absurd (refused_not w e h);
    }
both (good (act a) ∷ ts) =
    record {
      outside = λ p e h. let r = (both ts).outside (p + a.size) e h in
          record { commands = act a ∷ r.commands; same = ap (λ (x : List Tok). good (act a) ∷ x) r.same; program = one r.program };
      inside = λ p e l h. one_more a ts e ((both ts).inside (p + a.size) e l h);
    }
both (good (rep n z) ∷ ts) =
    record {
      outside = λ p e h. looped n z ts e ((both ts).inside (p + z) e (opened p (rep n z)) h);
      inside = λ p e l h. absurd (refused_not (fault 26 p) e h);
    }
both (good close ∷ ts) =
    record {
      outside = λ p e h. absurd (refused_not (fault 26 p) e h);
      inside = λ p e l h. let r = (both ts).outside (p + 2) e h in
          by_close [] r.commands (ap (λ (x : List Tok). good close ∷ x) r.same) r.program;
    }
both (good forever ∷ ts) =
    record {
      outside = λ p e h. absurd (refused_not (fault 26 p) e h);
      inside = λ p e l h. let r = at_end ts (p + 2) e h in
          by_forever [] (ap (λ (x : List Tok). good forever ∷ x) r.0) r.1;
    }
both (good again ∷ ts) =
    record {
      outside = λ p e h. let r = at_end ts (p + 2) e h in
          record { commands = again ∷ []; same = ap (λ (x : List Tok). good again ∷ x) r.0; program = subst (Program (again ∷ [])) (sym r.1) over };
      inside = λ p e l h. absurd (refused_not (fault 26 p) e h);
    }

-- the body's tokens, if they are commands, tile it
chain_good : (b : List ℕ) (p : ℕ) (c : Part) (ts : List Tok) (t : Tok) → chain t (λ z. tokens_of b (p + z)) ≡ good c ∷ ts → (t ≡ good c) × (tokens_of b (p + size_of c) ≡ ts)
chain_good b p c ts (good k) e =
    let s : k ≡ c = cc in
    let r : tokens_of b (p + size_of k) ≡ ts = cc in
    (ap good s, ap (λ (x : Part). tokens_of b (p + size_of x)) (sym s) ∙ r)
chain_good b p c ts (bad w) e = let z : ◌≡◌ {A = ℕ} 0 1 = cc in absurd (omega arith)

chain_some : (t : Tok) (r : ℕ → List Tok) → chain t r ≡ [] → ⊥
chain_some (good c) r e = let z : ◌≡◌ {A = ℕ} 0 1 = cc in omega arith
chain_some (bad w) r e = let z : ◌≡◌ {A = ℕ} 0 1 = cc in omega arith

pub tokens_tiled : (b : List ℕ) (cs : List Part) (p : ℕ) → p ≤ length b → tokens_of b p ≡ goods cs → Tiled b p cs
tokens_tiled b [] p h e =
    dite (dec_lt p (length b))
    (λ (l : p < length b). absurd (chain_some (get b p) (λ z. tokens_of b (p + z)) (sym (tokens_first b p l) ∙ e)))
    (λ l. done (omega arith))
tokens_tiled b (c ∷ cs) p h e = go (λ q k f. tokens_tiled b cs q k f)
  where
    go : ((q : ℕ) → q ≤ length b → tokens_of b q ≡ goods cs → Tiled b q cs) → Tiled b p (c ∷ cs)
    go rest =
        dite (dec_lt p (length b))
        (λ (l : p < length b).
        let s = chain_good b p c (goods cs) (get b p) (sym (tokens_first b p l) ∙ e) in
        more s.0 (rest (p + size_of c) (get_within b p c s.0) s.1))
        (λ l.
        let k : length b ≤ p = omega arith in
        let n : [] ≡ good c ∷ goods cs = sym (tokens_none b p k) ∙ e in
        let z : ◌≡◌ {A = ℕ} 0 1 = cc in
        absurd (omega arith))

one_byte : (b : List ℕ) → get_or b 0 0 ≡ caret → 1 ≤ length b
one_byte [] h = absurd (omega arith)
one_byte (x ∷ b) h = omega arith

-- an accepted body is one that the grammar describes
pub accepted_described : (b : List ℕ) (e : Bool) → judge_of b ≡ accepted_as e → Described b e
unfolding judge_of
accepted_described b e h = short (ltb 84 (length b)) refl h
  where
    front : (t : Bool) → eqb (get_or b 0 0) caret ≡ t → length b ≤ 84 → when t (commands_of b) (Err (fault 21 0)) ≡ accepted_as e → Described b e
    front true f m k =
        let r = (both (tokens_of b 0)).outside 0 e k in
        record {
          some = one_byte b (eqb-true (get_or b 0 0) caret f);
          most = m;
          commands = r.commands;
          tiled = tokens_tiled b r.commands 0 (omega arith) r.same;
          program = r.program;
        }
    front false f m k = absurd (refused_not (fault 21 0) e k)

    short : (t : Bool) → ltb 84 (length b) ≡ t → when t (Err (fault 28 84)) (when (eqb (get_or b 0 0) caret) (commands_of b) (Err (fault 21 0))) ≡ accepted_as e → Described b e
    short true f k = absurd (refused_not (fault 28 84) e k)
    short false f k = front (eqb (get_or b 0 0) caret) refl (ltb-false 84 (length b) f) k
