-- What an accepted body is: its length, its tree, and that the tree's commands stand in it, from its first byte to its end.
use Prim.Native.Nat.{ℕ, ◌+◌, ◌≤◌, ◌<◌}
use mathlib.Core.List.{List, [], ◌∷◌, map}
use mathlib.Core.Bool.{Bool, true, false}
use mathlib.Core.Path.{◌≡◌, refl}
use native.Mathlib.Omega.{arith}
use lib.Dec.{eqb, ltb}
use lib.ListN.{length, get_or}
use borrow.Author.Tests.{ltb-false, eqb-true}
use Rattle.basis.specs.Choice.{when}
use Rattle.params.specs.Bytes.{caret}
use Rattle.loops.specs.Token.{Tok, good, get, tokens_of}
use Rattle.judge.specs.Verdict.{Verdict, commands_of, judge_of}
use Rattle.refusal.specs.declared.Fault.{Fault}
use Rattle.refusal.specs.Refusal.{fault}
use Rattle.std.proofs.Common.{Ok, Err}
use Rattle.loops.proofs.Tokens.{get_two}
use Rattle.course.specs.Tree.{Block, Ending, Pending, build_of, tree_in, flat, flat_end, parts_of}
use Rattle.course.proofs.Accepts.{Yes, Accepted, accepted, shape, Depth}
use Rattle.course.proofs.Runs.{At}
use Rattle.course.proofs.Stands.{at_tokens}

pub record Program (b : List ℕ) (v : Verdict) : Type 0 where
  pub some : 0 < length b
  pub most : length b ≤ 84
  pub parts : tokens_of b 0 ≡ map good (parts_of (tree_in b))
  pub stands : At (get b) (length b) 0 (parts_of (tree_in b))
  pub verdict : shape [] (tree_in b).ending ≡ v
  pub deep : Depth 1 (tree_in b).block

-- no verdict is yes but that of the commands
pub accepting : (b : List ℕ) (v : Verdict) → judge_of b ≡ v → Yes v → (0 < length b) × ((length b ≤ 84) × (commands_of b ≡ v))
unfolding judge_of
accepting b v e y = go (ltb 84 (length b)) refl (eqb (get_or b 0 0) caret) refl e
  where
    no : (x : Fault) → Err x ≡ v → ⊥
    no x w = never v w y
      where
        never : (v : Verdict) → Err x ≡ v → Yes v → ⊥
        never (Ok e) w y = let z : ◌≡◌ {A = ℕ} 0 1 = cc in omega arith
        never (Err k) w y = y

    full : (b : List ℕ) → get_or b 0 0 ≡ caret → 0 < length b
    full [] w = absurd (omega arith)
    full (x ∷ xs) w = omega arith

    go : (long : Bool) → ltb 84 (length b) ≡ long → (first : Bool) → eqb (get_or b 0 0) caret ≡ first
        → when long (Err (fault 28 84)) (when first (commands_of b) (Err (fault 21 0))) ≡ v
        → (0 < length b) × ((length b ≤ 84) × (commands_of b ≡ v))
    go true q first r w = absurd (no (fault 28 84) w)
    go false q true r w = (full b (eqb-true (get_or b 0 0) caret r), (ltb-false 84 (length b) q, w))
    go false q false r w = absurd (no (fault 21 0) w)

-- with no loop left open, what was built is the tree
closed : (bl : Block) (s : List Pending) (e : Ending) (ts : List Tok) (v : Verdict) → Accepted bl s e ts 1 0 v
    → (ts ≡ map good (flat bl (flat_end e))) × (shape [] e ≡ v)
closed bl [] e ts v h = (h.parts, h.verdict)
closed bl (r ∷ s) e ts v h = absurd (omega (arith, h.size))

pub program : (b : List ℕ) (v : Verdict) → judge_of b ≡ v → Yes v → Program b v
program b v e y =
    let a = accepting b v e y in
    let t = build_of (tokens_of b 0) in
    let h = accepted (tokens_of b 0) 1 0 [] v a.1.1 y in
    let c = closed t.block t.pending t.ending (tokens_of b 0) v h in
    let enough : length b ≤ 0 + length b = omega arith in
    record {
      some = a.0;
      most = a.1.0;
      parts = c.0;
      stands = at_tokens (get b) (length b) (get_two b) (length b) 0 (parts_of (tree_in b)) enough c.0;
      verdict = c.1;
      deep = h.deep;
    }
