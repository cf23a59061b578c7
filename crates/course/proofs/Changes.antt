-- Why two readings of a loop suffice: a block's effect on the settings is one change, and a change made twice is made once.
use Prim.Native.Nat.{ℕ, zero, suc, ◌≤◌}
use mathlib.Core.Path.{◌≡◌, refl, sym, ap, ◌∙◌}
use native.Mathlib.Omega.{arith}
use Rattle.perform.specs.Settings.{Change, stays, takes, changed, Changes, none, applied, changes_of}
use Rattle.perform.specs.declared.settings.Settings.{Settings}
use Rattle.course.specs.Steps.{sets_of}
use Rattle.course.specs.Tree.{Block, stop, one, loop, times, exit_of}
use Rattle.course.specs.Price.{leaves_of}

-- the later of two changes, or the earlier where that leaves the value
over : {A : Type 0} → Change A → Change A → Change A
over c stays = c
over c (takes y) = takes y

changed_over : {A : Type 0} (c d : Change A) (x : A) → changed d (changed c x) ≡ changed (over c d) x
unfolding over
changed_over c stays x = refl
changed_over c (takes y) x = refl

changed_again : {A : Type 0} (c : Change A) (x : A) → changed c (changed c x) ≡ changed c x
changed_again stays x = refl
changed_again (takes y) x = refl

joined : Changes → Changes → Changes
joined c d =
    record {
      pace = over c.pace d.pace;
      scans = over c.scans d.scans;
      sink = over c.sink d.sink;
      dim = over c.dim d.dim;
      bright = over c.bright d.bright;
    }

-- settings are equal where each of the five is
same : (p p' s s' k k' d d' b b' : ℕ) → p ≡ p' → s ≡ s' → k ≡ k' → d ≡ d' → b ≡ b'
    → ◌≡◌ {A = Settings} (record { pace = p; scans = s; sink = k; dim = d; bright = b })
    (record { pace = p'; scans = s'; sink = k'; dim = d'; bright = b' })
same p p' s s' k k' d d' b b' ep es ek ed eb = cc

applied_joined : (c d : Changes) (σ : Settings) → applied d (applied c σ) ≡ applied (joined c d) σ
unfolding joined
applied_joined c d σ =
    same _ _ _ _ _ _ _ _ _ _ (changed_over c.pace d.pace σ.pace) (changed_over c.scans d.scans σ.scans)
    (changed_over c.sink d.sink σ.sink)
    (changed_over c.dim d.dim σ.dim)
    (changed_over c.bright d.bright σ.bright)

applied_again : (c : Changes) (σ : Settings) → applied c (applied c σ) ≡ applied c σ
applied_again c σ =
    same _ _ _ _ _ _ _ _ _ _ (changed_again c.pace σ.pace) (changed_again c.scans σ.scans)
    (changed_again c.sink σ.sink)
    (changed_again c.dim σ.dim)
    (changed_again c.bright σ.bright)

-- all that a block changes
effect : Block → Changes
effect stop = none
effect (one a b) = joined (changes_of a.kind a.number) (effect b)
effect (loop n z body b) = joined (effect body) (effect b)

leaves_effect : (b : Block) (σ : Settings) → leaves_of b σ ≡ applied (effect b) σ
unfolding effect
leaves_effect stop σ = refl
leaves_effect (one a b) σ = leaves_effect b (sets_of a σ) ∙ applied_joined (changes_of a.kind a.number) (effect b) σ
leaves_effect (loop n z body b) σ =
    leaves_effect b (leaves_of body σ) ∙ ap (applied (effect b)) (leaves_effect body σ) ∙ applied_joined (effect body) (effect b) σ

-- a second pass leaves what the first left
pub leaves_twice : (b : Block) (σ : Settings) → leaves_of b (leaves_of b σ) ≡ leaves_of b σ
leaves_twice b σ =
    leaves_effect b (leaves_of b σ) ∙ ap (applied (effect b)) (leaves_effect b σ) ∙ applied_again (effect b) σ ∙ sym (leaves_effect b σ)

-- each loop of a block has a number of 1 at least
abbrev pub Counted : Block → Type 0
Counted stop = Unit
Counted (one a b) = Counted b
Counted (loop n z body b) = (1 ≤ n) × (Counted body × Counted b)

times_same : (f h : Settings → Settings) → ((σ : Settings) → f σ ≡ h σ) → (n : ℕ) (σ : Settings) → times n f σ ≡ times n h σ
times_same f h e zero σ = refl
times_same f h e (suc n) σ = times_same f h e n (f σ) ∙ ap (times n h) (e σ)

times_fixed : (f : Settings → Settings) (n : ℕ) (σ : Settings) → f σ ≡ σ → times n f σ ≡ σ
times_fixed f zero σ e = refl
times_fixed f (suc n) σ e = ap (times n f) e ∙ times_fixed f n σ e

-- n passes leave what one leaves
pub times_leaves : (b : Block) (n : ℕ) (σ : Settings) → 1 ≤ n → times n (leaves_of b) σ ≡ leaves_of b σ
times_leaves b zero σ h = absurd (omega arith)
times_leaves b (suc n) σ h = times_fixed (leaves_of b) n (leaves_of b σ) (leaves_twice b σ)

-- so the settings behind a block are those of its loops read once
pub exit_leaves : (b : Block) → Counted b → (σ : Settings) → exit_of b σ ≡ leaves_of b σ
exit_leaves stop h σ = refl
exit_leaves (one a b) h σ = exit_leaves b h (sets_of a σ)
exit_leaves (loop n z body b) h σ =
    exit_leaves b h.1.1 (times n (exit_of body) σ)
    ∙ ap (leaves_of b)
    (times_same (exit_of body) (leaves_of body) (exit_leaves body h.1.0) n σ ∙ times_leaves body n σ h.0)

pub times_exit : (body : Block) (n : ℕ) → 1 ≤ n → Counted body → (σ : Settings) → times n (exit_of body) σ ≡ leaves_of body σ
times_exit body n h c σ = times_same (exit_of body) (leaves_of body) (exit_leaves body c) n σ ∙ times_leaves body n σ h
