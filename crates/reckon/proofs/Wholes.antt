-- The reckoning, turn by turn: what is summed so far and the price of what is left always make up the price of the whole.
use Prim.Native.Nat.{ℕ, zero, suc, ◌+◌, ◌-◌, ◌≤◌, ◌<◌}
use mathlib.Core.List.{List, [], ◌∷◌}
use mathlib.Core.Path.{◌≡◌, refl, sym, ap, ◌∙◌, subst}
use native.Mathlib.Omega.{arith}
use lib.ListN.{length}
use Rattle.perform.specs.Price.{answer_of}
use Rattle.perform.specs.declared.settings.Settings.{Settings}
use Rattle.loops.specs.Token.{Part, act, rep, close, forever, again, Tok, good, bad, size_of, get, chain, tokens_of}
use Rattle.judge.specs.Verdict.{judge_of}
use Rattle.judge.specs.declared.Ending.TheVariants.{Finite}
use Rattle.std.proofs.Common.{Ok}
use Rattle.loops.proofs.Tokens.{tokens_first}
use Rattle.course.specs.Steps.{says_of, sets_of}
use Rattle.course.specs.Tree.{Block, stop, one, loop, times, exit_of, flat, tree_in}
use Rattle.course.specs.Price.{ones, scans, millis, leaves_of, price_of}
use Rattle.course.proofs.Accepts.{Depth}
use Rattle.course.proofs.Changes.{Counted, times_exit}
use Rattle.loops.proofs.Values.{get_loop}
use Rattle.course.proofs.Programs.{program}
use Rattle.course.proofs.Runs.{At, past, at_past}
use Rattle.course.proofs.Theorem.{finite_stands}
use Rattle.reckon.specs.Reckon.{added_of, stride_of, pass_of, later_of}
use Rattle.totals.specs.Totals.{none_of, cost_of, plus_of, times_of}
use Rattle.reckon.specs.Forecast.{prices_of}
use Rattle.reckon.specs.declared.reckon.Reckoned.{Reckoned}
use Rattle.totals.specs.declared.Totals.{Totals}
use Rattle.totals.proofs.Sums.{totals_are, Within, plus_within, plus_none, plus_one, plus_loop}

-- a loop of n passes behind its `L`, each reckoned from nothing: the first, and the second n - 1 times over
abbrev pub looped_of : List ℕ → ℕ → Reckoned → Reckoned
looped_of b n s =
    let start : Reckoned = record { place = s.place; settings = s.settings; totals = none_of } in
    let first = pass_of b start in
    record {
      place = first.place;
      settings = first.settings;
      totals = plus_of (plus_of s.totals first.totals) (times_of (n - 1) (later_of b start));
    }

-- a plain command, or a whole loop; nothing else stands between them in a program that ends
abbrev pub turn_of : List ℕ → Tok → Reckoned → Reckoned
turn_of b (good (act a)) s = added_of (good (act a)) s
turn_of b (good (rep n z)) s = looped_of b n (added_of (good (rep n z)) s)
turn_of b (good close) s = s
turn_of b (good forever) s = s
turn_of b (good again) s = s
turn_of b (bad w) s = s

-- what is reckoned behind a block
abbrev behind_block : Block → Reckoned → Reckoned
behind_block t s = record { place = past t s.place; settings = leaves_of t s.settings; totals = plus_of s.totals (prices_of t s.settings) }

-- a stride goes by what stands at its place
pub stride_at : (b : List ℕ) (s : Reckoned) (c : Part) → s.place < length b → get b s.place ≡ good c
    → stride_of (tokens_of b s.place) s ≡ stride_of (good c ∷ tokens_of b (s.place + size_of c)) s
stride_at b s c within g =
    ap (λ (ts : List Tok). stride_of ts s) (tokens_first b s.place within)
    ∙ ap (λ (t : Tok). stride_of (chain t (λ z. tokens_of b (s.place + z))) s) g

-- a stride over a block without loops, to the `E` behind it
stride_block : (b : List ℕ) (t : Block) (k : List Part) (s : Reckoned) → Depth 0 t → Within s.totals → At (get b) (length b) s.place (flat t (close ∷ k))
    → stride_of (tokens_of b s.place) s ≡ behind_block t s
stride_block b stop k s d w h =
    stride_at b s close h.0 h.1.0
    ∙ ap (λ (x : Totals). record { place = s.place; settings = s.settings; totals = x }) (sym (plus_none s.totals w))
stride_block b (one a t) k s d w h =
    stride_at b s (act a) h.0 h.1.0
    ∙ stride_block b t k (added_of (good (act a)) s) d (plus_within s.totals (cost_of (says_of (act a) s.settings))) h.1.1
    ∙ ap (λ (x : Totals). record { place = past t (s.place + a.size); settings = leaves_of t (sets_of a s.settings); totals = x })
    (plus_one s.totals 1 (price_of ones t (sets_of a s.settings)) (scans (says_of (act a) s.settings)) (price_of scans t (sets_of a s.settings))
    (millis (says_of (act a) s.settings))
    (price_of millis t (sets_of a s.settings)))
stride_block b (loop n z body t) k s d w h = absurd d

-- one pass over a block, with the `E` behind it
pass_block : (b : List ℕ) (t : Block) (k : List Part) (s : Reckoned) → Depth 0 t → Within s.totals → At (get b) (length b) s.place (flat t (close ∷ k))
    → pass_of b s ≡ added_of (good close) (behind_block t s)
pass_block b t k s d w h =
    ap (λ (x : Reckoned). added_of (get b x.place) x) (stride_block b t k s d w h)
    ∙ ap (λ (x : Tok). added_of x (behind_block t s)) (at_past (get b) (length b) t (close ∷ k) s.place h).1.0

-- in a block without loops each loop has a number of 1 at least
none_counted : (t : Block) → Depth 0 t → Counted t
none_counted stop d = tt
none_counted (one a t) d = none_counted t d
none_counted (loop n z body t) d = absurd d

-- what is left to reckon: the rest of the program stands at the place, with what is summed makes up the whole, and leaves the last settings
pub record Left (b : List ℕ) (whole : Totals) (last : Settings) (s : Reckoned) : Type 0 where
  pub rest : Block
  pub stands : At (get b) (length b) s.place (flat rest [])
  pub deep : Depth 1 rest
  pub within : Within s.totals
  pub sums : plus_of s.totals (prices_of rest s.settings) ≡ whole
  pub leaves : exit_of rest s.settings ≡ last

module _ (b : List ℕ) (whole : Totals) (last : Settings) where
  -- a turn takes a command or a loop off what is left
  turn_one : (s : Reckoned) (t : Block) (a : _) → At (get b) (length b) s.place (flat (one a t) []) → Depth 1 (one a t)
      → plus_of s.totals (prices_of (one a t) s.settings) ≡ whole
      → exit_of (one a t) s.settings ≡ last
      → Left b whole last (added_of (good (act a)) s)
  turn_one s t a h d e l =
      let σ = sets_of a s.settings in
      record {
        rest = t;
        stands = h.1.1;
        deep = d;
        within = plus_within s.totals (cost_of (says_of (act a) s.settings));
        sums = plus_one s.totals 1 (price_of ones t σ) (scans (says_of (act a) s.settings)) (price_of scans t σ) (millis (says_of (act a) s.settings))
            (price_of millis t σ)
            ∙ e;
        leaves = l;
      }

  turn_loop : (s : Reckoned) (m z : ℕ) (body t : Block) → At (get b) (length b) s.place (flat (loop (suc m) z body t) []) → Depth 1 (loop (suc m) z body t)
      → plus_of s.totals (prices_of (loop (suc m) z body t) s.settings) ≡ whole
      → exit_of (loop (suc m) z body t) s.settings ≡ last
      → Left b whole last (looped_of b (suc m) (added_of (good (rep (suc m) z)) s))
  unfolding answer_of
  turn_loop s m z body t h d e l =
      let σ = s.settings in
      let τ = leaves_of body σ in
      let s1 = added_of (good (rep (suc m) z)) s in
      let s0 : Reckoned = record { place = s1.place; settings = σ; totals = none_of } in
      let s2 : Reckoned = record { place = s1.place; settings = τ; totals = none_of } in
      let first = added_of (good close) (behind_block body s0) in
      let later = added_of (good close) (behind_block body s2) in
      let one_pass : pass_of b s0 ≡ first = pass_block b body (flat t []) s0 d.0 (omega arith) h.1.1 in
      let two_pass : pass_of b s2 ≡ later = pass_block b body (flat t []) s2 d.0 (omega arith) h.1.1 in
      let less : suc m - 1 ≡ m = omega arith in
      let passed : times (suc m) (exit_of body) σ ≡ τ = times_exit body (suc m) (omega arith) (none_counted body d.0) σ in
      let once = plus_of s1.totals first.totals in
      let is : looped_of b (suc m) s1 ≡ record { place = first.place; settings = τ; totals = plus_of once (times_of m later.totals) } =
      ap (λ (x : Reckoned). record { place = x.place; settings = x.settings; totals = plus_of (plus_of s1.totals x.totals) (times_of (suc m - 1) (pass_of b (record { place = s1.place; settings = x.settings; totals = none_of })).totals) }) one_pass
      ∙ ap (λ (x : Reckoned). record { place = first.place; settings = τ; totals = plus_of once (times_of (suc m - 1) x.totals) }) two_pass
      ∙ ap (λ (n : ℕ). record { place = first.place; settings = τ; totals = plus_of once (times_of n later.totals) }) less in
      subst (Left b whole last) (sym is) (
      record {
        rest = t;
        stands = (at_past (get b) (length b) body (close ∷ flat t []) (s.place + z) h.1.1).1.1;
        deep = d.1;
        within = plus_within once (times_of m later.totals);
        sums = plus_loop s.totals m 1 (price_of ones body σ) 1 (price_of ones body τ) (price_of ones t τ) 0 (price_of scans body σ) 0
            (price_of scans body τ)
            (price_of scans t τ)
            0
            (price_of millis body σ)
            0
            (price_of millis body τ)
            (price_of millis t τ)
            ∙ e;
        leaves = sym (ap (exit_of t) passed) ∙ l;
      }
      )

  -- so a turn keeps what is left in step with the whole
  pub turn_keeps : (s : Reckoned) → s.place < length b → Left b whole last s
      → Left b whole last (turn_of b (get b s.place) s)
  turn_keeps s within h = go h.rest h.stands h.deep h.sums h.leaves
    where
      go : (t : Block) → At (get b) (length b) s.place (flat t []) → Depth 1 t → plus_of s.totals (prices_of t s.settings) ≡ whole
          → exit_of t s.settings ≡ last
          → Left b whole last (turn_of b (get b s.place) s)
      go stop w d e l = absurd (omega arith)
      go (one a t) w d e l = subst (λ (x : Tok). Left b whole last (turn_of b x s)) (sym w.1.0) (turn_one s t a w d e l)
      go (loop zero z body t) w d e l = absurd (omega (arith, (get_loop b s.place zero z w.1.0).least))
      go (loop (suc m) z body t) w d e l = subst (λ (x : Tok). Left b whole last (turn_of b x s)) (sym w.1.0) (turn_loop s m z body t w d e l)

  -- and at the end nothing is left
  pub left_none : (s : Reckoned) → length b ≤ s.place → Left b whole last s → (s.totals ≡ whole) × (s.settings ≡ last)
  left_none s past h = go h.rest h.stands h.sums h.leaves
    where
      go : (t : Block) → At (get b) (length b) s.place (flat t []) → plus_of s.totals (prices_of t s.settings) ≡ whole
          → exit_of t s.settings ≡ last
          → (s.totals ≡ whole) × (s.settings ≡ last)
      go stop w e l = (sym (plus_none s.totals h.within) ∙ e, l)
      go (one a t) w e l = absurd (omega (arith, w.0))
      go (loop n z body t) w e l = absurd (omega (arith, w.0))

-- all of a program that comes to an end is left at its start
pub left_all : (b : List ℕ) (σ : Settings) → judge_of b ≡ Ok Finite
    → Left b (prices_of (tree_in b).block σ) (exit_of (tree_in b).block σ) (record { place = 0; settings = σ; totals = none_of })
left_all b σ e =
    let p = program b (Ok Finite) e tt in
    let t = (tree_in b).block in
    record {
      rest = t;
      stands = finite_stands b e;
      deep = p.deep;
      within = omega arith;
      sums = totals_are _ _ _ _ _ _ (omega arith) (omega arith) (omega arith);
      leaves = refl;
    }
