-- From runs to counted steps: Ready after exactly as many steps as commands, and not sooner; what comes back is never Ready.
use Prim.Native.Nat.{ℕ, zero, suc, ◌+◌, ◌-◌, ◌≤◌, ◌<◌}
use mathlib.Core.List.{List, ◌∷◌, map}
use mathlib.Core.Path.{◌≡◌, refl, sym, ap, ◌∙◌, subst}
use mathlib.Core.Logic.{dite}
use native.Mathlib.Decide.{dec_lt}
use native.Mathlib.Omega.{arith}
use lib.ListN.{length, take}
use Rattle.perform.specs.declared.settings.Settings.{Settings}
use Rattle.perform.specs.declared.price.Performed.{Performed}
use Rattle.loops.specs.Token.{Part, Tok, good}
use Rattle.course.specs.Steps.{Frame, State, at, Said, did, Busy, went_at, said_at, says_of, goes_of, next_of, said_of, after_of, answers_of}
use Rattle.course.proofs.Runs.{Runs, done, more}

module _ (g : ℕ → Tok) (len : ℕ) where
  next_is : (c : Part) (p : ℕ) (fs : List Frame) (σ : Settings) → g p ≡ good c → next_of g len (at p fs σ) ≡ goes_of len c p fs σ
  next_is c p fs σ e = ap (λ (t : Tok). went_at len t p fs σ) e

  said_is : (c : Part) (p : ℕ) (fs : List Frame) (σ : Settings) → g p ≡ good c → said_of g (at p fs σ) ≡ did (says_of c σ)
  said_is c p fs σ e = ap (λ (t : Tok). said_at t σ) e

  -- as many steps as commands lead to the run's end
  pub runs_after : {s t : State} {xs : List Performed} → Runs g len s xs t → after_of g len (length xs) s ≡ t
  runs_after done = refl
  runs_after (more {p} {fs} {σ} {xs} c e r) = ap (after_of g len (length xs)) (next_is c p fs σ e) ∙ runs_after r

  -- and their answers are the run's
  pub runs_answers : {s t : State} {xs : List Performed} → Runs g len s xs t → answers_of g len (length xs) s ≡ map did xs
  runs_answers done = refl
  runs_answers (more {p} {fs} {σ} {xs} c e r) =
      ap (λ (x : Said). x ∷ answers_of g len (length xs) (next_of g len (at p fs σ))) (said_is c p fs σ e)
      ∙ ap (λ (s : State). did (says_of c σ) ∷ answers_of g len (length xs) s) (next_is c p fs σ e)
      ∙ ap (λ (ys : List Said). did (says_of c σ) ∷ ys) (runs_answers r)

  -- fewer steps answer the first of them
  pub runs_first : {s t : State} {xs : List Performed} → Runs g len s xs t → (k : ℕ) → k ≤ length xs → answers_of g len k s ≡ map did (take k xs)
  runs_first r zero h = refl
  runs_first done (suc k) h = absurd (omega arith)
  runs_first (more {p} {fs} {σ} {xs} c e r) (suc k) h =
      let less : k ≤ length xs = omega arith in
      ap (λ (x : Said). x ∷ answers_of g len k (next_of g len (at p fs σ))) (said_is c p fs σ e)
      ∙ ap (λ (s : State). did (says_of c σ) ∷ answers_of g len k s) (next_is c p fs σ e)
      ∙ ap (λ (ys : List Said). did (says_of c σ) ∷ ys) (runs_first {s = goes_of len c p fs σ} r k less)

  -- before that the sign is Busy
  pub runs_busy : {s t : State} {xs : List Performed} → Runs g len s xs t → (k : ℕ) → k < length xs → Busy (after_of g len k s)
  runs_busy done k h = absurd (omega arith)
  runs_busy (more c e r) zero h = tt
  runs_busy (more {p} {fs} {σ} {xs} c e r) (suc k) h =
      let less : k < length xs = omega arith in
      subst (λ (s : State). Busy (after_of g len k s)) (sym (next_is c p fs σ e)) (runs_busy r k less)

  pub after_add : (j k : ℕ) (s : State) → after_of g len (j + k) s ≡ after_of g len k (after_of g len j s)
  after_add zero k s = let e : zero + k ≡ k = omega arith in ap (λ (n : ℕ). after_of g len n s) e
  after_add (suc j) k s =
      let e : suc j + k ≡ suc (j + k) = omega arith in
      ap (λ (n : ℕ). after_of g len n s) e ∙ after_add j k (next_of g len s)

  -- a way from each state of a family back into the family, by one command at least
  pub record Returns (Family : State → Type 0) (s : State) : Type 0 where
    pub all : List Performed
    pub some : 0 < length all
    pub back : State
    pub way : Runs g len s all back
    pub within : Family back

  never_by : (Family : State → Type 0) → ((s : State) → Family s → Returns Family s) → (fuel k : ℕ) (s : State) → Family s → k ≤ fuel
      → Busy (after_of g len k s)
  never_by Family returns zero k s h le =
      let less : k < length (returns s h).all = omega (arith, (returns s h).some) in
      runs_busy (returns s h).way k less
  never_by Family returns (suc fuel) k s h le =
      let r = returns s h in
      let n = length r.all in
      let d = k - n in
      let less : d ≤ fuel = omega (arith, r.some) in
      let later = never_by Family returns fuel d r.back r.within less in
      dite (dec_lt k n) (λ before. runs_busy r.way k before)
      (λ other.
      let split : k ≡ n + d = omega arith in
      let e : after_of g len k s ≡ after_of g len d r.back =
      ap (λ (m : ℕ). after_of g len m s) split ∙ after_add n d s ∙ ap (after_of g len d) (runs_after r.way) in
      subst Busy (sym e) later)

  -- what always comes back is Busy after any number of steps
  pub never : (Family : State → Type 0) → ((s : State) → Family s → Returns Family s) → (k : ℕ) (s : State) → Family s
      → Busy (after_of g len k s)
  never Family returns k s h = never_by Family returns k k s h (omega arith)

  -- what leads to a state that is never Ready was never Ready on the way
  pub led : {s t : State} {xs : List Performed} → Runs g len s xs t → ((k : ℕ) → Busy (after_of g len k t)) → (k : ℕ)
      → Busy (after_of g len k s)
  led {s} {t} {xs} r busy k =
      let n = length xs in
      let d = k - n in
      dite (dec_lt k n) (λ before. runs_busy r k before)
      (λ other.
      let split : k ≡ n + d = omega arith in
      let e : after_of g len k s ≡ after_of g len d t =
      ap (λ (m : ℕ). after_of g len m s) split ∙ after_add n d s ∙ ap (after_of g len d) (runs_after r) in
      subst Busy (sym e) (busy d))
