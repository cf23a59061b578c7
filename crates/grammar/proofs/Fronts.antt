-- The carets of an accepted body are the fronts of its commands, and nothing else is.
use Prim.Native.Nat.{ℕ, ◌+◌, ◌≤◌, ◌<◌}
use mathlib.Core.Path.{◌≡◌, sym, ap, ◌∙◌}
use mathlib.Core.Bool.{Bool}
use mathlib.Core.List.{List, ◌∷◌}
use mathlib.Core.Logic.{dite, ◌↔◌}
use native.Mathlib.Omega.{arith}
use native.Mathlib.Decide.{dec_lt, dec_le}
use lib.ListN.{length, get_or}
use Rattle.params.specs.Bytes.{caret}
use Rattle.loops.specs.Token.{Part, size_of}
use Rattle.judge.specs.Verdict.{judge_of}
use Rattle.grammar.specs.Grammar.{Tiled, done, more, accepted_as}
use Rattle.loops.proofs.Tokens.{get_caret, get_only}
use Rattle.grammar.proofs.Grammars.{accepted_described}

-- q is the front of one of the commands that stand from p on
pub data Front (q : ℕ) : ℕ → List Part → Type 0 where
  here : {p : ℕ} {c : Part} {cs : List Part} → p ≡ q → Front q p (c ∷ cs)
  later : {p : ℕ} {c : Part} {cs : List Part} → Front q (p + size_of c) cs → Front q p (c ∷ cs)

-- a front is a caret
pub front_caret : {b : List ℕ} {p : ℕ} {cs : List Part} (q : ℕ) → Tiled b p cs → Front q p cs → get_or b q 0 ≡ caret
front_caret {b = b} q (done {p = p} _) x = elim x [ ]
front_caret {b} {p} q (more {c = c} e t) (here h) = ap (λ (k : ℕ). get_or b k 0) (sym h) ∙ get_caret b p c e
front_caret q (more e t) (later f) = front_caret q t f

-- a caret is a front
pub caret_front : {b : List ℕ} {p : ℕ} {cs : List Part} (q : ℕ) → Tiled b p cs → p ≤ q → q < length b → get_or b q 0 ≡ caret → Front q p cs
caret_front q (done e) h l k = absurd (omega arith)
caret_front {b} {p} q (more {c = c} {cs = cs} e t) h l k = go (λ x. caret_front q t x l k)
  where
    go : (p + size_of c ≤ q → Front q (p + size_of c) cs) → Front q p (c ∷ cs)
    go rest =
        dite (dec_le (p + size_of c) q)
        (λ (x : p + size_of c ≤ q). later (rest x))
        (λ x.
        dite (dec_lt p q)
        (λ (y : p < q). absurd (get_only b p c e q y (omega arith) k))
        (λ y. here (omega arith)))

-- an accepted body is exactly tiled by its commands, and its carets are their fronts
pub record Fronted (b : List ℕ) : Type 0 where
  pub commands : List Part
  pub tiled : Tiled b 0 commands
  pub fronts : (q : ℕ) → q < length b → (get_or b q 0 ≡ caret) ↔ Front q 0 commands

pub accepted_fronted : (b : List ℕ) (e : Bool) → judge_of b ≡ accepted_as e → Fronted b
accepted_fronted b e h =
    let d = accepted_described b e h in
    record {
      commands = d.commands;
      tiled = d.tiled;
      fronts = λ q l. (λ k. caret_front q d.tiled (omega arith) l k, λ f. front_caret q d.tiled f);
    }
