-- Passes over the same commands, from settings that agree in pace and scans, come to the same totals: so a loop that leaves both as
-- they were is priced by its first pass. And what a block leaves agrees again.
use Prim.Native.Nat.{ℕ, zero, suc, ◌+◌}
use mathlib.Core.List.{List, [], ◌∷◌}
use mathlib.Core.Bool.{true}
use mathlib.Core.Path.{◌≡◌, refl, ap, ◌∙◌}
use borrow.Author.Tests.{eqb-true}
use lib.Dec.{eqb}
use Rattle.basis.proofs.Choices.{and_parts}
use Rattle.perform.specs.Settings.{changed, changes_of}
use Rattle.perform.specs.declared.settings.Settings.{Settings}
use Rattle.loops.specs.Token.{Part, act, rep, close, forever, again, Tok, good, bad, size_of, get, tokens_of}
use Rattle.course.specs.Steps.{says_of, sets_of}
use Rattle.course.specs.Tree.{Block, stop, one, loop, times, exit_of}
use Rattle.course.specs.Price.{scans, millis}
use Rattle.course.proofs.Agrees.{Agree, scans_care, millis_care}
use Rattle.reckon.specs.Reckon.{sets_part, added_of, stride_of, pass_of, alike_of, later_of}
use Rattle.totals.specs.Totals.{totals_of, cost_of, plus_of}
use Rattle.reckon.specs.declared.reckon.Reckoned.{Reckoned}
use Rattle.totals.specs.declared.Totals.{Totals}

-- at one place, with one sum, at settings that agree in pace and scans
abbrev Like : Reckoned → Reckoned → Type 0
Like x y = (x.place ≡ y.place) × ((Agree x.settings y.settings) × (x.totals ≡ y.totals))

sets_like : (c : Part) (σ τ : Settings) → Agree σ τ → Agree (sets_part c σ) (sets_part c τ)
sets_like (act a) σ τ h = (ap (changed (changes_of a.kind a.number).pace) h.0, ap (changed (changes_of a.kind a.number).scans) h.1)
sets_like (rep n z) σ τ h = h
sets_like close σ τ h = h
sets_like forever σ τ h = h
sets_like again σ τ h = h

times_like : (f : Settings → Settings) → ((σ τ : Settings) → Agree σ τ → Agree (f σ) (f τ)) → (n : ℕ) (σ τ : Settings) → Agree σ τ
    → Agree (times n f σ) (times n f τ)
times_like f e zero σ τ h = h
times_like f e (suc n) σ τ h = times_like f e n (f σ) (f τ) (e σ τ h)

-- what a block leaves of pace and scans goes by these two alone
pub exit_like : (t : Block) (σ τ : Settings) → Agree σ τ → Agree (exit_of t σ) (exit_of t τ)
exit_like stop σ τ h = h
exit_like (one a t) σ τ h = exit_like t (sets_of a σ) (sets_of a τ) (sets_like (act a) σ τ h)
exit_like (loop n z body t) σ τ h =
    exit_like t (times n (exit_of body) σ) (times n (exit_of body) τ) (times_like (exit_of body) (λ x y k. exit_like body x y k) n σ τ h)

cost_like : (c : Part) (σ τ : Settings) → Agree σ τ → cost_of (says_of c σ) ≡ cost_of (says_of c τ)
cost_like c σ τ h =
    ap (λ (n : ℕ). totals_of 1 n (millis (says_of c σ))) (scans_care c σ τ h) ∙ ap (totals_of 1 (scans (says_of c τ))) (millis_care c σ τ h)

-- a command added to both
added_like : (t : Tok) (x y : Reckoned) → Like x y → Like (added_of t x) (added_of t y)
added_like (good c) x y h = (
  ap (λ (n : ℕ). n + size_of c) h.0,
  (
    sets_like c x.settings y.settings h.1.0,
    ap (λ (t : Totals). plus_of t (cost_of (says_of c x.settings))) h.1.1 ∙ ap (plus_of y.totals) (cost_like c x.settings y.settings h.1.0),
  ),
)
added_like (bad w) x y h = h

stride_like : (ts : List Tok) (x y : Reckoned) → Like x y → Like (stride_of ts x) (stride_of ts y)
stride_like [] x y h = h
stride_like (good (act a) ∷ ts) x y h = stride_like ts (added_of (good (act a)) x) (added_of (good (act a)) y) (added_like (good (act a)) x y h)
stride_like (good (rep n z) ∷ ts) x y h = h
stride_like (good close ∷ ts) x y h = h
stride_like (good forever ∷ ts) x y h = h
stride_like (good again ∷ ts) x y h = h
stride_like (bad w ∷ ts) x y h = h

-- the same pass from other settings
abbrev pub from_other : Reckoned → Settings → Reckoned
from_other s τ = record { place = s.place; settings = τ; totals = s.totals }

pass_like : (b : List ℕ) (s : Reckoned) (τ : Settings) → Agree s.settings τ → (pass_of b s).totals ≡ (pass_of b (from_other s τ)).totals
pass_like b s τ h =
    let ts = tokens_of b s.place in
    let x = stride_of ts s in
    let y = stride_of ts (from_other s τ) in
    let both : Like x y = stride_like ts s (from_other s τ) (refl, (h, refl)) in
    (added_like (get b x.place) x y both).1.1 ∙ ap (λ (n : ℕ). (added_of (get b n) y).totals) both.0

-- later passes cost what the first did where that left pace and scans as they were
pub later_same : (b : List ℕ) (s f : Reckoned) → f ≡ pass_of b s → alike_of s.settings f.settings ≡ true → f.totals ≡ later_of b s
later_same b s f e h =
    let parts = and_parts (eqb s.settings.pace f.settings.pace) (eqb s.settings.scans f.settings.scans) h in
    let agree : Agree s.settings f.settings = (eqb-true _ _ parts.0, eqb-true _ _ parts.1) in
    ap (λ (x : Reckoned). x.totals) e
    ∙ pass_like b s f.settings agree
    ∙ ap (λ (x : Reckoned). (pass_of b (from_other s x.settings)).totals) e
