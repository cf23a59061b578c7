-- The record behind a command, field by field, is the record of the state behind it.
use Prim.Native.Nat.{ℕ, zero, suc, ◌+◌, ◌-◌, ◌%◌, ◌≤◌}
use mathlib.Core.List.{List, [], ◌∷◌}
use mathlib.Core.Bool.{Bool}
use mathlib.Core.Path.{◌≡◌, refl, sym, ap, ◌∙◌}
use mathlib.Core.Logic.{dite}
use native.Mathlib.Decide.{dec_lt}
use native.Mathlib.Omega.{arith}
use lib.Dec.{leb, eqb}
use lib.ListN.{take, drop}
use borrow.Author.Tests.{lt-ltb, le-ltb, le-leb, lt-leb, ne_eqb}
use Rattle.basis.specs.Choice.{when}
use Rattle.basis.proofs.Choices.{when_true, when_false}
use Rattle.std.specs.Prelude.{Result, Ok, Option, Some}
use Rattle.refusal.specs.declared.Refusal.{Refusal}
use Rattle.measure.specs.Width.{widths_of}
use Rattle.measure.specs.declared.width.Widths.{Widths}
use Rattle.program.specs.Command.{read_of}
use Rattle.program.specs.declared.Command.{Command}
use Rattle.std.proofs.Common.{Ok}
use Rattle.perform.specs.Price.{answer_of}
use Rattle.perform.specs.Settings.{behind_of}
use Rattle.perform.specs.declared.settings.Settings.{Settings}
use Rattle.perform.specs.declared.price.Performed.{Performed}
use Rattle.loops.specs.Token.{role_of, Tok, good, size_of, part_of, act_of, tok_of, get}
use Rattle.loops.specs.declared.Role.{Role}
use Rattle.loops.specs.declared.Role.TheVariants.{Plain, Repeat, Close, Forever, Again}
use Rattle.loops.proofs.Moves.{next_is}
use Rattle.course.specs.Steps.{Frame, frame, ready, at, settle, closed, returned, goes_of, went_at, said_at}
use Rattle.machine.specs.Step.{outside, frames_of, loop_of, run_of, say_of}
use Rattle.machine.specs.Moves.{settled_of, back_of, moved_of, ran_of}
use Rattle.machine.specs.declared.Run.{Run}
use Rattle.machine.specs.declared.Stepped.{Stepped}
use Rattle.machine.proofs.Commands.{says_is}

-- a settled state's record
pub settle_is : (r : Run) (p : ℕ) (fs : List Frame) (σ : Settings) → run_of r (settle r.len p fs σ) ≡ settled_of r p (loop_of fs) σ
unfolding settle
settle_is r p fs σ =
    dite (dec_lt p r.len)
    (λ within.
    ap (λ (t : Bool). run_of r (when t (at p fs σ) (ready σ))) (lt-ltb p r.len within)
    ∙ sym (when_false (leb r.len p) _ _ (lt-leb r.len p within)))
    (λ past.
    let behind : r.len ≤ p = omega arith in
    ap (λ (t : Bool). run_of r (when t (at p fs σ) (ready σ))) (le-ltb p r.len behind)
    ∙ sym (when_true (leb r.len p) _ _ (le-leb r.len p behind)))

-- the open loop of a record, by the count left
one_left : (place k : ℕ) → frames_of (record { place = place; left = suc k }) ≡ frame place (suc k) ∷ []
one_left place k = when_false (eqb (suc k) 0) _ _ (ne_eqb (suc k) 0 (λ e. omega arith))

-- `E`, by the count left
close_by : (r : Run) (p place left : ℕ) (σ : Settings)
    → run_of r (closed r.len p (frames_of (record { place = place; left = left })) σ)
    ≡ when (eqb (left - 1) 0) (settled_of r (p + 2) outside σ) (settled_of r place (record { place = place; left = left - 1 }) σ)
close_by r p place zero σ = settle_is r (p + 2) [] σ
close_by r p place (suc zero) σ = settle_is r (p + 2) [] σ
close_by r p place (suc (suc k)) σ =
    let less : suc (suc k) - 1 ≡ suc k = omega arith in
    ap (λ (fs : List Frame). run_of r (closed r.len p fs σ)) (one_left place (suc k))
    ∙ settle_is r place (frame place (suc k) ∷ []) σ
    ∙ sym (when_false (eqb (suc k) 0) _ _ (ne_eqb (suc k) 0 (λ e. omega arith)))
    ∙ ap (λ (n : ℕ). when (eqb n 0) (settled_of r (p + 2) outside σ) (settled_of r place (record { place = place; left = n }) σ)) (sym less)

-- `F`, by the count left
return_by : (r : Run) (p place left : ℕ) (σ : Settings)
    → run_of r (returned r.len p (frames_of (record { place = place; left = left })) σ)
    ≡ when (eqb left 0) (settled_of r (p + 2) outside σ) (settled_of r place (record { place = place; left = left }) σ)
return_by r p place zero σ = settle_is r (p + 2) [] σ
return_by r p place (suc k) σ =
    ap (λ (fs : List Frame). run_of r (returned r.len p fs σ)) (one_left place k)
    ∙ settle_is r place (frame place (suc k) ∷ []) σ
    ∙ sym (when_false (eqb (suc k) 0) _ _ (ne_eqb (suc k) 0 (λ e. omega arith)))

-- the record behind a good command, by its role
moved_by : (ρ : Role) (b : List ℕ) (p : ℕ) (c : Command) (r : Run) → p + size_of (part_of ρ (act_of b p c)) ≡ c.next
    → run_of r (goes_of r.len (part_of ρ (act_of b p c)) p (frames_of r.inner) r.settings)
    ≡ moved_of ρ c.kind c.number r c.next
moved_by Plain b p c r e =
    settle_is r (p + (c.next - p)) (frames_of r.inner) (behind_of c.kind c.number r.settings)
    ∙ ap (λ (n : ℕ). settled_of r n (loop_of (frames_of r.inner)) (behind_of c.kind c.number r.settings)) e
moved_by Repeat b p c r e =
    settle_is r (p + (c.next - p)) (frame (p + (c.next - p)) c.number ∷ frames_of r.inner) r.settings
    ∙ ap (λ (n : ℕ). settled_of r n (record { place = n; left = c.number }) r.settings) e
moved_by Close b p c r e = close_by r p r.inner.place r.inner.left r.settings ∙ ap (back_of r (r.inner.left - 1)) e
moved_by Forever b p c r e = return_by r p r.inner.place r.inner.left r.settings ∙ ap (back_of r r.inner.left) e
moved_by Again b p c r e = settle_is r 0 (frames_of r.inner) r.settings

-- a Busy run with a good command at its place
pub ran_good : (b : List ℕ) (r : Run) (c : Command) (w : Widths) (x : Run) (y : Performed) → read_of b r.place ≡ Ok c
    → w ≡ widths_of (take c.len (drop c.text b))
    → y ≡ answer_of c.kind (c.number % 256) c.text c.len w r.settings
    → x ≡ moved_of (role_of c.kind) c.kind c.number r c.next
    → ◌≡◌ {A = Stepped} (record { run = x; answer = Ok (Some y) }) (ran_of b r)
ran_good b r c w x y e ew ey ex =
    let p = r.place in
    let ρ = role_of c.kind in
    let part = part_of ρ (act_of b p c) in
    let there : get b p ≡ good part = ap (tok_of b p) e in
    let next : x ≡ run_of r (went_at r.len (get b p) p (frames_of r.inner) r.settings) =
    ex
    ∙ sym (moved_by ρ b p c r (next_is b p c e ρ refl))
    ∙ ap (λ (t : Tok). run_of r (went_at r.len t p (frames_of r.inner) r.settings)) (sym there) in
    let says : Ok (Some y) ≡ say_of (said_at (get b p) r.settings) =
    ap (λ (q : Performed). Ok (Some q)) (ey ∙ ap (λ (v : Widths). answer_of c.kind (c.number % 256) c.text c.len v r.settings) ew ∙ sym (says_is b p c r.settings e))
    ∙ ap (λ (t : Tok). say_of (said_at t r.settings)) (sym there) in
    ap (λ (z : Run). record { run = z; answer = Ok (Some y) }) next
    ∙ ap (λ (z : Result (Option Performed) Refusal). record { run = run_of r (went_at r.len (get b p) p (frames_of r.inner) r.settings); answer = z }) says
