-- The walk that judges and reckons at once: each command keeps the first pass of an open loop in step with the loop, and what is left
-- in step with the whole.
use Prim.Native.Nat.{ℕ, ◌+◌, ◌≤◌, ◌<◌}
use mathlib.Core.List.{List}
use mathlib.Core.Path.{◌≡◌, refl, sym, ap, ◌∙◌, subst}
use native.Mathlib.Omega.{arith}
use lib.ListN.{length}
use Rattle.perform.specs.declared.settings.Settings.{Settings}
use Rattle.loops.specs.Token.{Part, act, rep, close, forever, again, Tok, good, bad, size_of, get, tokens_of}
use Rattle.loops.specs.Structure.{opened}
use Rattle.loops.specs.Flow.{ended_of, opens_of, go_on}
use Rattle.judge.specs.Verdict.{Verdict, end_of, commands_of, judge_of}
use Rattle.loops.specs.declared.Open.{Open}
use Rattle.loops.specs.declared.Flow.{Flow}
use Rattle.loops.specs.declared.Flow.TheVariants.{Free, Within, Ended}
use Rattle.judge.specs.declared.Ending.TheVariants.{Finite, Endless}
use Rattle.refusal.specs.declared.Fault.{Fault}
use Rattle.std.proofs.Common.{Ok, Err, Result}
use Rattle.judge.proofs.Turns.{from, turn_at, next_place, on_next, on_end}
use Rattle.refusal.proofs.Names.{ok_one}
use Rattle.loops.proofs.Values.{get_loop}
use Rattle.totals.specs.Totals.{none_of}
use Rattle.totals.specs.declared.Totals.{Totals}
use Rattle.course.specs.Tree.{exit_of, tree_in}
use Rattle.reckon.specs.Forecast.{prices_of, by_verdict, foretold_of}
use Rattle.reckon.specs.Reckon.{added_of, pass_of, entry_of, closed_of, summed_of, Counts, Passing}
use Rattle.reckon.specs.declared.reckon.Reckoned.{Reckoned}
use Rattle.reckon.specs.declared.walk.Sums.{Sums}
use Rattle.reckon.proofs.Wholes.{stride_at, looped_of, turn_of, Left, turn_keeps, left_none, left_all}
use Rattle.loops.specs.declared.Turn.{Turn}

-- what is reckoned, and behind an open loop what will be, makes up the whole with what is left
abbrev pub Kept : List ℕ → Totals → Settings → Flow → Sums → Type 0
Kept b whole last Free s = Left b whole last s.at
Kept b whole last (Within l) s = Left b whole last (looped_of b l.number (record { place = l.behind; settings = s.entry; totals = s.before }))
Kept b whole last Ended s = ◌≡◌ {A = ℕ} 0 0

-- a pass goes on behind an act, and ends with an `E`
pass_act : (b : List ℕ) (s : Reckoned) (a : _) → s.place < length b → get b s.place ≡ good (act a) → pass_of b s ≡ pass_of b (added_of (good (act a)) s)
pass_act b s a h g = ap (λ (x : Reckoned). added_of (get b x.place) x) (stride_at b s (act a) h g)

pass_close : (b : List ℕ) (s : Reckoned) → s.place < length b → get b s.place ≡ good close → pass_of b s ≡ added_of (good close) s
pass_close b s h g =
    ap (λ (x : Reckoned). added_of (get b x.place) x) (stride_at b s close h g) ∙ ap (λ (t : Tok). added_of t s) g

-- the walk goes on behind the command
pub summed_place : (b : List ℕ) (c : Part) (f : Flow) (s : Sums) → (summed_of b (good c) f s).at.place ≡ s.at.place + size_of c
summed_place b (act a) f s = refl
summed_place b (rep n z) f s = refl
summed_place b close Free s = refl
summed_place b close (Within l) s = refl
summed_place b close Ended s = refl
summed_place b forever f s = refl
summed_place b again f s = refl

-- how judging goes on behind a command
flow_is : {p k : ℕ} {f g : Flow} → ◌≡◌ {A = Result Turn Fault} (Ok (go_on p f)) (Ok (go_on k g)) → f ≡ g
flow_is e = ap (λ (t : Turn). t.flow) (ok_one e)

module _ (b : List ℕ) (s : Sums) (k : ℕ) where
  -- no loop is open
  none_free : (f : Flow) (x : Sums) → f ≡ Free → Passing b f x
  none_free f x e = λ l w. let z : ◌≡◌ {A = ℕ} 0 1 = cc in absurd (omega arith)

  none_ended : (f : Flow) (x : Sums) → f ≡ Ended → Passing b f x
  none_ended f x e = λ l w. let z : ◌≡◌ {A = ℕ} 0 1 = cc in absurd (omega arith)

  -- each command keeps the first pass of an open loop in step
  pub passing_next : (t : Tok) (f g : Flow) → s.at.place < length b → get b s.at.place ≡ t → turn_at t s.at.place f ≡ Ok (go_on k g) → Passing b f s
      → Passing b g (summed_of b t f s)
  passing_next t Ended g h u e i = let z : ◌≡◌ {A = ℕ} 0 1 = cc in absurd (omega arith)
  passing_next (bad w) Free g h u e i = let z : ◌≡◌ {A = ℕ} 0 1 = cc in absurd (omega arith)
  passing_next (bad w) (Within m) g h u e i = let z : ◌≡◌ {A = ℕ} 0 1 = cc in absurd (omega arith)
  passing_next (good (act a)) Free g h u e i = none_free g (summed_of b (good (act a)) Free s) (sym (flow_is e))
  passing_next (good (act a)) (Within m) g h u e i =
      λ l w.
      let here : Within m ≡ g = flow_is e in
      let same : m ≡ l = cc in
      let was = i m refl in
      subst (λ (y : Open). (pass_of b (added_of (good (act a)) s.at) ≡ pass_of b (entry_of y s.entry)) × Counts y) same
      (sym (pass_act b s.at a h u) ∙ was.0, was.1)
  passing_next (good (rep n z)) Free g h u e i =
      λ l w.
      let here : Within (opened s.at.place (rep n z)) ≡ g = flow_is e in
      let same : opened s.at.place (rep n z) ≡ l = cc in
      let counts = get_loop b s.at.place n z u in
      subst (λ (y : Open). (pass_of b (summed_of b (good (rep n z)) Free s).at ≡ pass_of b (entry_of y (summed_of b (good (rep n z)) Free s).entry)) × Counts y) same
      (refl, (counts.least, counts.most))
  passing_next (good (rep n z)) (Within m) g h u e i = let y : ◌≡◌ {A = ℕ} 0 1 = cc in absurd (omega arith)
  passing_next (good close) Free g h u e i = let z : ◌≡◌ {A = ℕ} 0 1 = cc in absurd (omega arith)
  passing_next (good close) (Within m) g h u e i = none_free g (summed_of b (good close) (Within m) s) (sym (flow_is e))
  passing_next (good forever) Free g h u e i = let z : ◌≡◌ {A = ℕ} 0 1 = cc in absurd (omega arith)
  passing_next (good forever) (Within m) g h u e i = none_ended g (summed_of b (good forever) (Within m) s) (sym (flow_is e))
  passing_next (good again) Free g h u e i = none_ended g (summed_of b (good again) Free s) (sym (flow_is e))
  passing_next (good again) (Within m) g h u e i = let z : ◌≡◌ {A = ℕ} 0 1 = cc in absurd (omega arith)

  module _ (whole : Totals) (last : Settings) where
    -- a turn of the program where no loop is open
    free_next : (t : Tok) → s.at.place < length b → get b s.at.place ≡ t → Left b whole last s.at → Left b whole last (turn_of b t s.at)
    free_next t h u i = subst (λ (x : Tok). Left b whole last (turn_of b x s.at)) u (turn_keeps b whole last s.at h i)

    -- each command keeps what is left in step with the whole
    pub kept_next : (t : Tok) (f g : Flow) → s.at.place < length b → get b s.at.place ≡ t → turn_at t s.at.place f ≡ Ok (go_on k g) → Passing b f s
        → Kept b whole last f s
        → Kept b whole last g (summed_of b t f s)
    kept_next t Ended g h u e i j = let z : ◌≡◌ {A = ℕ} 0 1 = cc in absurd (omega arith)
    kept_next (bad w) Free g h u e i j = let z : ◌≡◌ {A = ℕ} 0 1 = cc in absurd (omega arith)
    kept_next (bad w) (Within m) g h u e i j = let z : ◌≡◌ {A = ℕ} 0 1 = cc in absurd (omega arith)
    kept_next (good (act a)) Free g h u e i j =
        let same : Free ≡ g = flow_is e in
        subst (λ (y : Flow). Kept b whole last y (summed_of b (good (act a)) Free s)) same (free_next (good (act a)) h u j)
    kept_next (good (act a)) (Within m) g h u e i j =
        let same : Within m ≡ g = flow_is e in
        subst (λ (y : Flow). Kept b whole last y (summed_of b (good (act a)) (Within m) s)) same j
    kept_next (good (rep n z)) Free g h u e i j =
        let same : Within (opened s.at.place (rep n z)) ≡ g = flow_is e in
        subst (λ (y : Flow). Kept b whole last y (summed_of b (good (rep n z)) Free s)) same (free_next (good (rep n z)) h u j)
    kept_next (good (rep n z)) (Within m) g h u e i j = let y : ◌≡◌ {A = ℕ} 0 1 = cc in absurd (omega arith)
    kept_next (good close) Free g h u e i j = let z : ◌≡◌ {A = ℕ} 0 1 = cc in absurd (omega arith)
    kept_next (good close) (Within m) g h u e i j =
        let same : Free ≡ g = flow_is e in
        let first : pass_of b (entry_of m s.entry) ≡ added_of (good close) s.at = sym (i m refl).0 ∙ pass_close b s.at h u in
        subst (λ (y : Flow). Kept b whole last y (summed_of b (good close) (Within m) s)) same
        (subst (λ (x : Reckoned). Left b whole last (record { place = x.place; settings = x.settings; totals = closed_of b m x s.entry s.before })) first j)
    kept_next (good forever) Free g h u e i j = let z : ◌≡◌ {A = ℕ} 0 1 = cc in absurd (omega arith)
    kept_next (good forever) (Within m) g h u e i j =
        let same : Ended ≡ g = flow_is e in
        subst (λ (y : Flow). Kept b whole last y (summed_of b (good forever) (Within m) s)) same refl
    kept_next (good again) Free g h u e i j =
        let same : Ended ≡ g = flow_is e in
        subst (λ (y : Flow). Kept b whole last y (summed_of b (good again) Free s)) same refl
    kept_next (good again) (Within m) g h u e i j = let z : ◌≡◌ {A = ℕ} 0 1 = cc in absurd (omega arith)

-- a round of the walk: the verdict from here on, the first pass of an open loop, and what is left
abbrev pub Stands : List ℕ → Totals → Settings → Flow → Sums → Type 0
Stands b whole last f s =
    (from (tokens_of b s.at.place) s.at.place f ≡ commands_of b) × (Passing b f s × (judge_of b ≡ Ok Finite → Kept b whole last f s))

-- the next round, which begins at the place that judging goes on from
pub stands_next : (b : List ℕ) (whole : Totals) (last : Settings) (k : ℕ) (f g : Flow) (s x : Sums) → s.at.place < length b
    → turn_at (get b s.at.place) s.at.place f ≡ Ok (go_on k g)
    → x ≡ summed_of b (get b s.at.place) f s
    → Stands b whole last f s
    → (k ≡ x.at.place) × Stands b whole last g x
stands_next b whole last k f g s x h e ex i =
    let q = s.at.place in
    let n = next_place (get b q) q k f g e in
    let place : k ≡ x.at.place =
    n.2 ∙ sym (summed_place b n.0 f s) ∙ ap (λ (t : Tok). (summed_of b t f s).at.place) (sym n.1) ∙ ap (λ (y : Sums). y.at.place) (sym ex) in (
      place,
      (
        subst (λ (y : ℕ). from (tokens_of b y) y g ≡ commands_of b) place (sym (on_next b q k f g h e) ∙ i.0),
        (
          subst (Passing b g) (sym ex) (passing_next b s k (get b q) f g h refl e i.1.0),
          λ v. subst (Kept b whole last g) (sym ex) (kept_next b s k whole last (get b q) f g h refl e i.1.0 (i.1.1 v)),
        ),
      ),
    )

-- no totals and settings are told but those of a program that ends
pub told_same : (v : Verdict) (t u : Totals) (σ τ : Settings) → (v ≡ Ok Finite → (t ≡ u) × (σ ≡ τ)) → by_verdict v t σ ≡ by_verdict v u τ
told_same (Ok Finite) t u σ τ h = ap (λ (x : Totals). by_verdict (Ok Finite) x σ) (h refl).0 ∙ ap (by_verdict (Ok Finite) u) (h refl).1
told_same (Ok Endless) t u σ τ h = refl
told_same (Err w) t u σ τ h = refl

kept_whole : (b : List ℕ) (whole : Totals) (last : Settings) (f : Flow) (s : Sums) → length b ≤ s.at.place → end_of (ended_of f) (opens_of f) ≡ Ok Finite
    → Kept b whole last f s
    → (s.at.totals ≡ whole) × (s.at.settings ≡ last)
kept_whole b whole last Free s h e i = left_none b whole last s.at h i
kept_whole b whole last (Within l) s h e i = let z : ◌≡◌ {A = ℕ} 0 1 = cc in absurd (omega arith)
kept_whole b whole last Ended s h e i = let z : ◌≡◌ {A = ℕ} 0 1 = cc in absurd (omega arith)

-- at the end the whole is told, and the last settings
pub stands_end : (b : List ℕ) (whole : Totals) (last : Settings) (f : Flow) (s : Sums) → length b ≤ s.at.place → judge_of b ≡ commands_of b
    → Stands b whole last f s
    → foretold_of f s.at.totals s.at.settings ≡ by_verdict (judge_of b) whole last
stands_end b whole last f s h j i =
    let end : end_of (ended_of f) (opens_of f) ≡ judge_of b = sym (on_end b s.at.place f h) ∙ i.0 ∙ sym j in
    ap (λ (v : Verdict). by_verdict v s.at.totals s.at.settings) end
    ∙ told_same (judge_of b) s.at.totals whole s.at.settings last (λ v. kept_whole b whole last f s h (end ∙ v) (i.1.1 v))

pub stands_first : (b : List ℕ) (σ : Settings) (z w : Totals) → z ≡ none_of
    → Stands b (prices_of (tree_in b).block σ) (exit_of (tree_in b).block σ) Free
    (record { at = record { place = 0; settings = σ; totals = z }; entry = σ; before = w })
stands_first b σ z w e = (
  refl,
  (
    λ l u. let y : ◌≡◌ {A = ℕ} 0 1 = cc in absurd (omega arith),
    λ v. subst (λ (t : Totals). Left b (prices_of (tree_in b).block σ) (exit_of (tree_in b).block σ) (record { place = 0; settings = σ; totals = t })) (sym e) (left_all b σ v),
  ),
)
