-- The reckoning's code, command by command: what is added, and where a pass stops, goes on and ends.
use Prim.Native.Nat.{ℕ, ◌+◌, ◌%◌, ◌<◌}
use mathlib.Core.List.{List}
use mathlib.Core.Bool.{true, false}
use mathlib.Core.Path.{◌≡◌, refl, sym, ap, ◌∙◌}
use native.Mathlib.Omega.{arith}
use lib.ListN.{length, take, drop}
use Rattle.measure.specs.Width.{widths_of}
use Rattle.measure.specs.declared.width.Widths.{Widths}
use Rattle.program.specs.Command.{read_of}
use Rattle.program.proofs.Laws.{starts_within}
use Rattle.program.specs.declared.Kind.{Kind}
use Rattle.program.specs.declared.Kind.TheVariants.{II, IA, IB, S, L, E, F, R, XS, XF, P, Scans, W, XD, XB, Y}
use Rattle.program.specs.declared.Command.{Command}
use Rattle.std.proofs.Common.{Ok}
use Rattle.perform.specs.Price.{answer_of}
use Rattle.perform.specs.Settings.{behind_of}
use Rattle.perform.specs.declared.settings.Settings.{Settings}
use Rattle.perform.specs.declared.price.Performed.{Performed}
use Rattle.loops.specs.Token.{role_of, Tok, good, size_of, part_of, act_of, tok_of, get, chain, tokens_of}
use Rattle.loops.specs.declared.Role.{Role}
use Rattle.loops.specs.declared.Role.TheVariants.{Plain, Repeat, Close, Forever, Again}
use Rattle.loops.proofs.Moves.{next_is}
use Rattle.loops.proofs.Tokens.{tokens_first}
use Rattle.course.specs.Steps.{says_of}
use Rattle.reckon.specs.Reckon.{sets_part, added_of, plain_of, stride_of, pass_of}
use Rattle.totals.specs.Totals.{cost_of, plus_of}
use Rattle.reckon.specs.declared.reckon.Reckoned.{Reckoned}
use Rattle.totals.specs.declared.Totals.{Totals}
use Rattle.machine.proofs.Commands.{says_is}

-- only a plain command changes the settings
sets_by : (k : Kind) (b : List ℕ) (p : ℕ) (c : Command) (σ : Settings) → c.kind ≡ k
    → behind_of k c.number σ ≡ sets_part (part_of (role_of k) (act_of b p c)) σ
sets_by II b p c σ e = ap (λ (y : Kind). behind_of y c.number σ) (sym e)
sets_by IA b p c σ e = ap (λ (y : Kind). behind_of y c.number σ) (sym e)
sets_by IB b p c σ e = ap (λ (y : Kind). behind_of y c.number σ) (sym e)
sets_by S b p c σ e = ap (λ (y : Kind). behind_of y c.number σ) (sym e)
sets_by XS b p c σ e = ap (λ (y : Kind). behind_of y c.number σ) (sym e)
sets_by XF b p c σ e = ap (λ (y : Kind). behind_of y c.number σ) (sym e)
sets_by P b p c σ e = ap (λ (y : Kind). behind_of y c.number σ) (sym e)
sets_by Scans b p c σ e = ap (λ (y : Kind). behind_of y c.number σ) (sym e)
sets_by W b p c σ e = ap (λ (y : Kind). behind_of y c.number σ) (sym e)
sets_by XD b p c σ e = ap (λ (y : Kind). behind_of y c.number σ) (sym e)
sets_by XB b p c σ e = ap (λ (y : Kind). behind_of y c.number σ) (sym e)
sets_by Y b p c σ e = ap (λ (y : Kind). behind_of y c.number σ) (sym e)
sets_by L b p c σ e = refl
sets_by E b p c σ e = refl
sets_by F b p c σ e = refl
sets_by R b p c σ e = refl

-- what stands at the place of a good command
pub stands_good : (b : List ℕ) (p : ℕ) (c : Command) → read_of b p ≡ Ok c → get b p ≡ good (part_of (role_of c.kind) (act_of b p c))
stands_good b p c e = ap (tok_of b p) e

module _ (b : List ℕ) (s : Reckoned) (c : Command) (e : read_of b s.place ≡ Ok c) where
  pub added_is : (w : Widths) (y : Performed) (τ : Settings) (u v : Totals) → w ≡ widths_of (take c.len (drop c.text b))
      → y ≡ answer_of c.kind (c.number % 256) c.text c.len w s.settings
      → τ ≡ behind_of c.kind c.number s.settings
      → v ≡ cost_of y
      → u ≡ plus_of s.totals v
      → ◌≡◌ {A = Reckoned} (record { place = c.next; settings = τ; totals = u }) (added_of (get b s.place) s)
  added_is w y τ u v ew ey et ev eu =
      let p = s.place in
      let ρ = role_of c.kind in
      let part = part_of ρ (act_of b p c) in
      let place : c.next ≡ p + size_of part = sym (next_is b p c e ρ refl) in
      let set : τ ≡ sets_part part s.settings = et ∙ sets_by c.kind b p c s.settings refl in
      let says : y ≡ says_of part s.settings =
      ey ∙ ap (λ (v : Widths). answer_of c.kind (c.number % 256) c.text c.len v s.settings) ew ∙ sym (says_is b p c s.settings e) in
      let sum : u ≡ plus_of s.totals (cost_of (says_of part s.settings)) = eu ∙ ap (plus_of s.totals) (ev ∙ ap cost_of says) in
      ap (λ (n : ℕ). record { place = n; settings = τ; totals = u }) place
      ∙ ap (λ (x : Settings). record { place = p + size_of part; settings = x; totals = u }) set
      ∙ ap (λ (x : Totals). record { place = p + size_of part; settings = sets_part part s.settings; totals = x }) sum
      ∙ ap (λ (t : Tok). added_of t s) (sym (stands_good b p c e))

  module _ (within : s.place < length b) where
    by_first : stride_of (tokens_of b s.place) s
        ≡ stride_of (chain (good (part_of (role_of c.kind) (act_of b s.place c))) (λ z. tokens_of b (s.place + z))) s
    by_first =
        ap (λ (ts : List Tok). stride_of ts s) (tokens_first b s.place within)
        ∙ ap (λ (t : Tok). stride_of (chain t (λ z. tokens_of b (s.place + z))) s) (stands_good b s.place c e)

    -- a stride stops before a command of structure
    pub stride_stops : plain_of (role_of c.kind) ≡ false → stride_of (tokens_of b s.place) s ≡ s
    stride_stops h = by_first ∙ go (role_of c.kind) h
      where
        go : (ρ : Role) → plain_of ρ ≡ false → stride_of (chain (good (part_of ρ (act_of b s.place c))) (λ z. tokens_of b (s.place + z))) s ≡ s
        go Plain q = let z : ◌≡◌ {A = ℕ} 0 1 = cc in absurd (omega arith)
        go Repeat q = refl
        go Close q = refl
        go Forever q = refl
        go Again q = refl

    -- and goes on behind a plain one
    pub stride_goes : plain_of (role_of c.kind) ≡ true
        → stride_of (tokens_of b s.place) s ≡ stride_of (tokens_of b (added_of (get b s.place) s).place) (added_of (get b s.place) s)
    stride_goes h =
        by_first
        ∙ go (role_of c.kind) h
        ∙ ap (λ (t : Tok). stride_of (tokens_of b (added_of t s).place) (added_of t s)) (sym (stands_good b s.place c e))
      where
        go : (ρ : Role) → plain_of ρ ≡ true
            → stride_of (chain (good (part_of ρ (act_of b s.place c))) (λ z. tokens_of b (s.place + z))) s
            ≡ stride_of (tokens_of b (added_of (good (part_of ρ (act_of b s.place c))) s).place) (added_of (good (part_of ρ (act_of b s.place c))) s)
        go Plain q = refl
        go Repeat q = let z : ◌≡◌ {A = ℕ} 0 1 = cc in absurd (omega arith)
        go Close q = let z : ◌≡◌ {A = ℕ} 0 1 = cc in absurd (omega arith)
        go Forever q = let z : ◌≡◌ {A = ℕ} 0 1 = cc in absurd (omega arith)
        go Again q = let z : ◌≡◌ {A = ℕ} 0 1 = cc in absurd (omega arith)

module _ (b : List ℕ) (s : Reckoned) (c : Command) (e : read_of b s.place ≡ Ok c) where
  -- it ends with a command of structure
  pub pass_stops : plain_of (role_of c.kind) ≡ false → pass_of b s ≡ added_of (get b s.place) s
  pass_stops h = ap (λ (x : Reckoned). added_of (get b x.place) x) (stride_stops b s c e (starts_within b s.place c e) h)

  -- and goes on behind a plain one
  pub pass_goes : plain_of (role_of c.kind) ≡ true → pass_of b s ≡ pass_of b (added_of (get b s.place) s)
  pass_goes h = ap (λ (x : Reckoned). added_of (get b x.place) x) (stride_goes b s c e (starts_within b s.place c e) h)
