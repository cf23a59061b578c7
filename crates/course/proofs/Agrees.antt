-- What a program costs goes by pace and scans alone: settings that agree in these two cost the same.
use Prim.Native.Nat.{ℕ}
use mathlib.Core.Path.{◌≡◌, refl, ap, ◌∙◌}
use Rattle.perform.specs.Price.{doing_of, acts_of, scans_of, millis_of, answer_of}
use Rattle.perform.specs.Settings.{changed, changes_of}
use Rattle.perform.specs.declared.settings.Settings.{Settings}
use Rattle.perform.specs.declared.price.Performed.{Performed}
use Rattle.loops.specs.Token.{Act, Part, act, rep, close, forever, again}
use Rattle.course.specs.Steps.{says_of, sets_of}
use Rattle.course.specs.Tree.{Block, stop, one, loop}
use Rattle.course.specs.Price.{ones, scans, millis, leaves_of, price_of}

abbrev pub Agree : Settings → Settings → Type 0
Agree σ τ = (σ.pace ≡ τ.pace) × (σ.scans ≡ τ.scans)

sets_agree : (a : Act) (σ τ : Settings) → Agree σ τ → Agree (sets_of a σ) (sets_of a τ)
sets_agree a σ τ h = (ap (changed (changes_of a.kind a.number).pace) h.0, ap (changed (changes_of a.kind a.number).scans) h.1)

leaves_agree : (t : Block) (σ τ : Settings) → Agree σ τ → Agree (leaves_of t σ) (leaves_of t τ)
leaves_agree stop σ τ h = h
leaves_agree (one a t) σ τ h = leaves_agree t (sets_of a σ) (sets_of a τ) (sets_agree a σ τ h)
leaves_agree (loop n z body t) σ τ h = leaves_agree t (leaves_of body σ) (leaves_of body τ) (leaves_agree body σ τ h)

-- a measure that goes by pace and scans alone
abbrev pub Cares : (Performed → ℕ) → Type 0
Cares f = (c : Part) (σ τ : Settings) → Agree σ τ → f (says_of c σ) ≡ f (says_of c τ)

pub price_agree : (f : Performed → ℕ) → Cares f → (t : Block) (σ τ : Settings) → Agree σ τ → price_of f t σ ≡ price_of f t τ
price_agree f cares stop σ τ h = refl
price_agree f cares (one a t) σ τ h =
    let x = cares (act a) σ τ h in
    let y = price_agree f cares t (sets_of a σ) (sets_of a τ) (sets_agree a σ τ h) in
    cc
price_agree f cares (loop n z body t) σ τ h =
    let l = leaves_agree body σ τ h in
    let x = cares (rep n z) σ τ h in
    let y = cares close σ τ h in
    let first = price_agree f cares body σ τ h in
    let later = price_agree f cares body (leaves_of body σ) (leaves_of body τ) l in
    let rest = price_agree f cares t (leaves_of body σ) (leaves_of body τ) l in
    cc

pub ones_care : Cares ones
ones_care c σ τ h = refl

pub scans_care : Cares scans
unfolding answer_of
scans_care (act a) σ τ h = ap (scans_of (acts_of (doing_of a.kind) a.widths) a.widths) h.1
scans_care (rep n z) σ τ h = refl
scans_care close σ τ h = refl
scans_care forever σ τ h = refl
scans_care again σ τ h = refl

pub millis_care : Cares millis
unfolding answer_of
millis_care (act a) σ τ h =
    ap (λ (n : ℕ). millis_of (acts_of (doing_of a.kind) a.widths) a.number (scans_of (acts_of (doing_of a.kind) a.widths) a.widths n) σ.pace) h.1
    ∙ ap (millis_of (acts_of (doing_of a.kind) a.widths) a.number (scans_of (acts_of (doing_of a.kind) a.widths) a.widths τ.scans)) h.0
millis_care (rep n z) σ τ h = refl
millis_care close σ τ h = refl
millis_care forever σ τ h = refl
millis_care again σ τ h = refl
