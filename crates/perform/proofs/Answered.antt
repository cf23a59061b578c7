-- The parts of an answer, each as its rule says, make the answer.
use Prim.Native.Nat.{ℕ}
use mathlib.Core.Path.{◌≡◌, ap, ◌∙◌}
use Rattle.measure.specs.declared.width.Widths.{Widths}
use Rattle.units.specs.declared.Scans.{Scans}
use Rattle.units.specs.declared.Millis.{Millis}
use Rattle.program.specs.declared.Kind.{Kind}
use Rattle.perform.specs.Price.{doing_of, acts_of, scans_of, millis_of, column_of, shown_of, answer_of}
use Rattle.perform.specs.declared.price.Doing.{Doing}
use Rattle.perform.specs.declared.price.Performed.{Performed}
use Rattle.perform.specs.declared.settings.Settings.{Settings}

pub answer_is : (k : Kind) (number text len : ℕ) (w : Widths) (σ : Settings) (d : Doing) (kind : Kind) (column : ℕ) (s : Scans) (m : Millis)
    → d ≡ acts_of (doing_of k) w → s.0 ≡ scans_of d w σ.scans → kind ≡ shown_of d k → column ≡ column_of d w
    → m.0 ≡ millis_of d number s.0 σ.pace
    → ◌≡◌ {A = Performed} (record { kind = kind; number = number; text = text; len = len; column = column; scans = s; millis = m })
    (answer_of k number text len w σ)
unfolding answer_of
answer_is k number text len w σ d kind column s m ed es ek ec em =
    let cost : s.0 ≡ scans_of (acts_of (doing_of k) w) w σ.scans = es ∙ ap (λ (x : Doing). scans_of x w σ.scans) ed in
    let time : m.0 ≡ millis_of (acts_of (doing_of k) w) number (scans_of (acts_of (doing_of k) w) w σ.scans) σ.pace =
    em ∙ ap (λ (x : Doing). millis_of x number s.0 σ.pace) ed ∙ ap (λ (n : ℕ). millis_of (acts_of (doing_of k) w) number n σ.pace) cost in
    let shown : kind ≡ shown_of (acts_of (doing_of k) w) k = ek ∙ ap (λ (x : Doing). shown_of x k) ed in
    let start : column ≡ column_of (acts_of (doing_of k) w) w = ec ∙ ap (λ (x : Doing). column_of x w) ed in
    ap (λ (x : Kind). record { kind = x; number = number; text = text; len = len; column = column; scans = s; millis = m }) shown
    ∙ ap (λ (x : ℕ). record { kind = shown_of (acts_of (doing_of k) w) k; number = number; text = text; len = len; column = x; scans = s; millis = m }) start
    ∙ ap (λ (x : ℕ). record { kind = shown_of (acts_of (doing_of k) w) k; number = number; text = text; len = len; column = column_of (acts_of (doing_of k) w) w; scans = record { 0 = x }; millis = m }) cost
    ∙ ap (λ (x : ℕ). record { kind = shown_of (acts_of (doing_of k) w) k; number = number; text = text; len = len; column = column_of (acts_of (doing_of k) w) w; scans = record { 0 = scans_of (acts_of (doing_of k) w) w σ.scans }; millis = record { 0 = x } }) time
