-- Laws of the list of commands, over any reader whose commands take two bytes at least: the fuel is gone, and from a place
-- within the body the list is the command there and the list behind it.
use Prim.Native.Nat.{ℕ, zero, suc, ◌+◌, ◌≤◌, ◌<◌}
use mathlib.Core.Path.{◌≡◌, refl, sym, ap, ◌∙◌}
use mathlib.Core.Bool.{Bool}
use mathlib.Core.List.{List, [], ◌∷◌}
use native.Mathlib.Omega.{arith}
use borrow.Author.Tests.{lt-ltb, le-ltb}
use lib.Dec.{ltb}
use lib.ListN.{length, get_or}
use Rattle.basis.specs.Choice.{when}
use Rattle.params.specs.Bytes.{caret}
use Rattle.program.specs.Command.{read_of}
use Rattle.program.specs.declared.Command.{Command}
use Rattle.refusal.specs.declared.Fault.{Fault}
use Rattle.std.proofs.Common.{Result, Ok, Err}
use Rattle.program.proofs.Laws.{at_least_two, ends_within, starts_with_caret, only_caret}
use Rattle.loops.specs.Token.{role_of, Part, Tok, good, bad, size_of, part_of, act_of, tok_of, get, chain, tokens, tokens_of}
use Rattle.loops.proofs.Moves.{next_is}

module _ (g : ℕ → Tok) (len : ℕ) (two : (p : ℕ) (c : Part) → g p ≡ good c → 2 ≤ size_of c) where
  pub none_left : (k p : ℕ) → len ≤ p → tokens g len k p ≡ []
  none_left zero p h = refl
  none_left (suc k) p h = ap (λ (t : Bool). when t (chain (g p) (λ z. tokens g len k (p + z))) []) (le-ltb p len h)

  chain_same : (t : Tok) (r s : ℕ → List Tok) → ((c : Part) → t ≡ good c → r (size_of c) ≡ s (size_of c)) → chain t r ≡ chain t s
  chain_same (good c) r s h = ap (λ (x : List Tok). good c ∷ x) (h c refl)
  chain_same (bad w) r s h = refl

  pub fuel : (j k p : ℕ) → len ≤ p + j → len ≤ p + k → tokens g len j p ≡ tokens g len k p
  fuel zero k p hj hk = let h : len ≤ p = omega arith in sym (none_left k p h)
  fuel (suc j) zero p hj hk = let h : len ≤ p = omega arith in none_left (suc j) p h
  fuel (suc j) (suc k) p hj hk =
      ap (λ (x : List Tok). when (ltb p len) x [])
      (chain_same (g p) (λ z. tokens g len j (p + z)) (λ z. tokens g len k (p + z))
      (λ c e. let t = two p c e in fuel j k (p + size_of c) (omega arith) (omega arith)))

  -- the list from a place within, by what stands there
  pub first : (p : ℕ) → p < len → tokens g len len p ≡ chain (g p) (λ z. tokens g len len (p + z))
  first p h =
      let a : len ≤ p + len = omega arith in
      let b : len ≤ p + suc len = omega arith in
      fuel len (suc len) p a b
      ∙ ap (λ (t : Bool). when t (chain (g p) (λ z. tokens g len len (p + z))) []) (lt-ltb p len h)

-- the reader of a body
tok_two : (b : List ℕ) (p : ℕ) (r : Result Command Fault) → read_of b p ≡ r → (c : Part) → tok_of b p r ≡ good c → (2 ≤ size_of c) × (p + size_of c ≤ length b)
tok_two b p (Ok k) e c h =
    let n = next_is b p k e (role_of k.kind) refl in
    let s : part_of (role_of k.kind) (act_of b p k) ≡ c = cc in
    let z = ap size_of s in
    let t = at_least_two b p k e in
    let w = ends_within b p k e in
    (omega arith, omega arith)
tok_two b p (Err w) e c h = let z : ◌≡◌ {A = ℕ} 0 1 = cc in absurd (omega arith)

-- each command is at least 2 bytes, and ends within the body
pub get_two : (b : List ℕ) (p : ℕ) (c : Part) → get b p ≡ good c → 2 ≤ size_of c
get_two b p c e = (tok_two b p (read_of b p) refl c e).0

pub get_within : (b : List ℕ) (p : ℕ) (c : Part) → get b p ≡ good c → p + size_of c ≤ length b
get_within b p c e = (tok_two b p (read_of b p) refl c e).1

tok_caret : (b : List ℕ) (p : ℕ) (r : Result Command Fault) → read_of b p ≡ r → (c : Part) → tok_of b p r ≡ good c → get_or b p 0 ≡ caret
tok_caret b p (Ok k) e c h = starts_with_caret b p k e
tok_caret b p (Err w) e c h = let z : ◌≡◌ {A = ℕ} 0 1 = cc in absurd (omega arith)

-- and starts with a caret
pub get_caret : (b : List ℕ) (p : ℕ) (c : Part) → get b p ≡ good c → get_or b p 0 ≡ caret
get_caret b p c e = tok_caret b p (read_of b p) refl c e

tok_only : (b : List ℕ) (p : ℕ) (r : Result Command Fault) → read_of b p ≡ r → (c : Part) → tok_of b p r ≡ good c → (q : ℕ) → p < q → q < p + size_of c → get_or b q 0 ≡ caret → ⊥
tok_only b p (Ok k) e c h q after before =
    let n = next_is b p k e (role_of k.kind) refl in
    let s : part_of (role_of k.kind) (act_of b p k) ≡ c = cc in
    let z = ap size_of s in
    only_caret b p k e q after (omega arith)
tok_only b p (Err w) e c h q after before = let z : ◌≡◌ {A = ℕ} 0 1 = cc in absurd (omega arith)

-- and has no other
pub get_only : (b : List ℕ) (p : ℕ) (c : Part) → get b p ≡ good c → (q : ℕ) → p < q → q < p + size_of c → get_or b q 0 ≡ caret → ⊥
get_only b p c e = tok_only b p (read_of b p) refl c e

pub tokens_first : (b : List ℕ) (p : ℕ) → p < length b → tokens_of b p ≡ chain (get b p) (λ z. tokens_of b (p + z))
tokens_first b p h = first (get b) (length b) (get_two b) p h

pub tokens_none : (b : List ℕ) (p : ℕ) → length b ≤ p → tokens_of b p ≡ []
tokens_none b p h = none_left (get b) (length b) (get_two b) (length b) p h
