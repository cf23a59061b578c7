-- Pace and scan setting last (rule S13): only `P` changes the one, and only `=` the other.
use Prim.Native.Nat.{ℕ}
use mathlib.Core.Path.{◌≡◌, refl}
use Rattle.program.specs.declared.Kind.{Kind}
use Rattle.program.specs.declared.Kind.TheVariants.{II, IA, IB, S, L, E, F, R, XS, XF, P, Scans, W, XD, XB, Y}
use Rattle.perform.specs.Settings.{behind_of}
use Rattle.perform.specs.declared.settings.Settings.{Settings}

pub settings_last : (k : Kind) (n : ℕ) (σ : Settings)
    → ((k ≡ P → ⊥) → (behind_of k n σ).pace ≡ σ.pace) × ((k ≡ Scans → ⊥) → (behind_of k n σ).scans ≡ σ.scans)
settings_last II n σ = (λ other. refl, λ other. refl)
settings_last IA n σ = (λ other. refl, λ other. refl)
settings_last IB n σ = (λ other. refl, λ other. refl)
settings_last S n σ = (λ other. refl, λ other. refl)
settings_last L n σ = (λ other. refl, λ other. refl)
settings_last E n σ = (λ other. refl, λ other. refl)
settings_last F n σ = (λ other. refl, λ other. refl)
settings_last R n σ = (λ other. refl, λ other. refl)
settings_last XS n σ = (λ other. refl, λ other. refl)
settings_last XF n σ = (λ other. refl, λ other. refl)
settings_last P n σ = (λ other. absurd (other refl), λ other. refl)
settings_last Scans n σ = (λ other. refl, λ other. absurd (other refl))
settings_last W n σ = (λ other. refl, λ other. refl)
settings_last XD n σ = (λ other. refl, λ other. refl)
settings_last XB n σ = (λ other. refl, λ other. refl)
settings_last Y n σ = (λ other. refl, λ other. refl)
