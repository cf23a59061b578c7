-- Settings in range stay in range behind every command of a body.
use Prim.Native.Nat.{ℕ, ◌≤◌}
use mathlib.Core.Bool.{Bool, true, false}
use mathlib.Core.Path.{◌≡◌, refl, ap, ◌∙◌}
use native.Mathlib.Omega.{arith}
use lib.Dec.{ltb, leb}
use borrow.Author.Tests.{ne_eqb, ltb-false, le-leb, leb-true}
use Rattle.basis.specs.Choice.{when, ◌or◌, within}
use Rattle.basis.proofs.Choices.{and_parts, and_true, within_parts, within_true}
use Rattle.program.specs.declared.Kind.{Kind}
use Rattle.program.specs.declared.Kind.TheVariants.{II, IA, IB, S, L, E, F, R, XS, XF, P, Scans, W, XD, XB, Y}
use Rattle.program.proofs.Ranges.{form_of, InRange}
use Rattle.perform.specs.Settings.{sound_of, behind_of, bright_of, forced_of}
use Rattle.perform.specs.declared.settings.Settings.{Settings}

-- each setting in its range; brightness as its test, since no proof looks into it
pub record Ranged (σ : Settings) : Type 0 where
  pub pace_least : 1 ≤ σ.pace
  pub pace_most : σ.pace ≤ 20
  pub scans_least : 1 ≤ σ.scans
  pub scans_most : σ.scans ≤ 6
  pub sink_most : σ.sink ≤ 1
  pub dim_range : (1 ≤ σ.dim) × (σ.dim ≤ 255)
  pub bright_range : bright_of σ.bright ≡ true

pub ranged : (σ : Settings) → sound_of σ ≡ true → Ranged σ
unfolding sound_of
ranged σ e =
    let a = and_parts (within 1 σ.pace 20) _ e in
    let b = and_parts (within 1 σ.scans 6) _ a.1 in
    let k = and_parts (leb σ.sink 1) _ b.1 in
    let c = and_parts (within 1 σ.dim 255) _ k.1 in
    let p = within_parts 1 σ.pace 20 a.0 in
    let s = within_parts 1 σ.scans 6 b.0 in
    record {
      pace_least = p.0;
      pace_most = p.1;
      scans_least = s.0;
      scans_most = s.1;
      sink_most = leb-true σ.sink 1 k.0;
      dim_range = within_parts 1 σ.dim 255 c.0;
      bright_range = c.1;
    }

-- and together they are sound
pub sounds : (pace scans sink dim bright : ℕ) → 1 ≤ pace → pace ≤ 20 → 1 ≤ scans → scans ≤ 6 → sink ≤ 1 → (1 ≤ dim) × (dim ≤ 255) → bright_of bright ≡ true
    → sound_of (record { pace = pace; scans = scans; sink = sink; dim = dim; bright = bright }) ≡ true
unfolding sound_of
sounds pace scans sink dim bright h1 h2 h3 h4 hs h5 h6 =
    and_true _ _ (within_true 1 pace 20 h1 h2)
    (and_true _ _ (within_true 1 scans 6 h3 h4)
    (and_true _ _ (le-leb sink 1 hs) (and_true _ _ (within_true 1 dim 255 h5.0 h5.1) h6)))

-- what a number forces is 0 or 2 to 31
forced_range : (n : ℕ) → bright_of (forced_of n) ≡ true
forced_range n = go (ltb n 2) refl (ltb 31 n) refl
  where
    go : (a : Bool) → ltb n 2 ≡ a → (b : Bool) → ltb 31 n ≡ b → bright_of (when a 0 (when b 31 n)) ≡ true
    go true p b q = refl
    go false p true q = refl
    go false p false q =
        ap (λ (t : Bool). t or within 2 n 31) (ne_eqb n 0 (λ z. omega (arith, ltb-false n 2 p)))
        ∙ within_true 2 n 31 (ltb-false n 2 p) (ltb-false 31 n q)

pub behind_sound : (k : Kind) (n : ℕ) (σ : Settings) → InRange (form_of k) n → sound_of σ ≡ true → sound_of (behind_of k n σ) ≡ true
behind_sound P n σ h e =
    let r = ranged σ e in
    sounds n σ.scans σ.sink σ.dim σ.bright h.0 h.1 r.scans_least r.scans_most r.sink_most r.dim_range r.bright_range
behind_sound Scans n σ h e =
    let r = ranged σ e in
    sounds σ.pace n σ.sink σ.dim σ.bright r.pace_least r.pace_most h.0 h.1 r.sink_most r.dim_range r.bright_range
behind_sound XS n σ h e =
    let r = ranged σ e in
    sounds σ.pace σ.scans 1 σ.dim σ.bright r.pace_least r.pace_most r.scans_least r.scans_most (omega arith) r.dim_range r.bright_range
behind_sound XF n σ h e =
    let r = ranged σ e in
    sounds σ.pace σ.scans 0 σ.dim σ.bright r.pace_least r.pace_most r.scans_least r.scans_most (omega arith) r.dim_range r.bright_range
behind_sound XD n σ h e =
    let r = ranged σ e in
    sounds σ.pace σ.scans σ.sink n σ.bright r.pace_least r.pace_most r.scans_least r.scans_most r.sink_most h r.bright_range
behind_sound XB n σ h e =
    let r = ranged σ e in
    sounds σ.pace σ.scans σ.sink σ.dim (forced_of n) r.pace_least r.pace_most r.scans_least r.scans_most r.sink_most r.dim_range (forced_range n)
behind_sound II n σ h e = e
behind_sound IA n σ h e = e
behind_sound IB n σ h e = e
behind_sound S n σ h e = e
behind_sound L n σ h e = e
behind_sound E n σ h e = e
behind_sound F n σ h e = e
behind_sound R n σ h e = e
behind_sound W n σ h e = e
behind_sound Y n σ h e = e
