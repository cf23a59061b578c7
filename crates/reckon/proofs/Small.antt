-- Totals stay below 2^32, so no unit is ever capped: each command of a body costs at most 5,112 scans and 170,400 ms.
use Prim.Native.Nat.{ℕ, zero, suc, ◌+◌, ◌*◌, ◌^◌, ◌≤◌, ◌<◌}
use mathlib.Core.List.{List, [], ◌∷◌}
use mathlib.Core.Bool.{Bool, true, false}
use mathlib.Core.Path.{◌≡◌, refl, ap}
use native.Mathlib.Omega.{arith}
use native.Mathlib.Nat.{mul-le-mul_left, mul-le-mul_right, div-le_of_le-mul}
use lib.Dec.{eqb}
use lib.ListN.{length, take, drop, length-take}
use Rattle.basis.specs.Choice.{when}
use Rattle.units.specs.Units.{scans_of as scans_each, rounded_up, millis_of as millis_at}
use Rattle.measure.specs.Width.{fits_of}
use Rattle.measure.specs.declared.width.Widths.{Widths}
use Rattle.program.specs.declared.Kind.{Kind}
use Rattle.program.specs.declared.Kind.TheVariants.{II, IA, IB, S, L, E, F, R, XS, XF, P, Scans, W, XD, XB, Y}
use Rattle.measure.proofs.Columns.{whole_most}
use Rattle.perform.specs.Price.{doing_of, streams_of, acts_of, shifts_of, scans_of, millis_of, answer_of}
use Rattle.perform.specs.Settings.{sound_of as settings_sound}
use Rattle.perform.specs.declared.price.Doing.{Doing}
use Rattle.perform.specs.declared.price.Doing.TheVariants.{Shows, Streams, Waits, Rests}
use Rattle.perform.specs.declared.settings.Settings.{Settings}
use Rattle.perform.specs.declared.price.Performed.{Performed}
use Rattle.loops.specs.Token.{Act, Part, act, rep, close, good, get}
use Rattle.judge.specs.Verdict.{judge_of}
use Rattle.judge.specs.declared.Ending.TheVariants.{Finite}
use Rattle.std.proofs.Common.{Ok}
use Rattle.loops.proofs.Values.{get_act}
use Rattle.course.specs.Steps.{says_of, sets_of}
use Rattle.course.specs.Tree.{Block, stop, one, loop, flat, tree_in}
use Rattle.course.specs.Price.{ones, scans, millis, leaves_of, price_of, first_then}
use Rattle.course.proofs.Programs.{program}
use Rattle.course.proofs.Runs.{At, past, at_past}
use Rattle.course.proofs.Theorem.{finite_ends, finite_stands}
use Rattle.machine.proofs.Commands.{range_byte}
use Rattle.machine.proofs.Ranges.{behind_sound, ranged}

-- a scroll of at most 852 shifts at at most 6 scans
scroll_most : (w : Widths) (k : ℕ) → w.whole ≤ 756 → k ≤ 6 → scans_each (shifts_of w) k ≤ 5112
scroll_most w k h hk =
    let a : shifts_of w ≤ 852 = omega arith in
    let b : shifts_of w * k ≤ 852 * k = mul-le-mul_right k a in
    let c : scans_each (shifts_of w) k ≤ shifts_of w * k = omega arith in
    omega arith

streams_most : (t : Bool) (w : Widths) (k : ℕ) → w.whole ≤ 756 → k ≤ 6 → scans_of (when t Rests Streams) w k ≤ 5112
streams_most true w k h hk = omega arith
streams_most false w k h hk = scroll_most w k h hk

scans_most : (d : Doing) (w : Widths) (k : ℕ) → w.whole ≤ 756 → k ≤ 6 → ((n : ℕ) → d ≡ Shows n → n ≤ 7) → scans_of (acts_of d w) w k ≤ 5112
scans_most (Shows n) w k h hk s = go (fits_of w) (s n refl)
  where
    go : (t : Bool) → n ≤ 7 → scans_of (when t (Shows n) (streams_of w)) w k ≤ 5112
    go true a = omega arith
    go false a = streams_most (eqb w.whole 0) w k h hk
scans_most Streams w k h hk s = streams_most (eqb w.whole 0) w k h hk
scans_most Waits w k h hk s = omega arith
scans_most Rests w k h hk s = omega arith

-- no text is shown in more than 7 scans
shows_most : (k : Kind) (n : ℕ) → doing_of k ≡ Shows n → n ≤ 7
shows_most II n e = let w : 0 ≡ n = cc in omega arith
shows_most IA n e = let w : 7 ≡ n = cc in omega arith
shows_most IB n e = let w : 7 ≡ n = cc in omega arith
shows_most S n e = let z : ◌≡◌ {A = ℕ} 0 1 = cc in absurd (omega arith)
shows_most L n e = let z : ◌≡◌ {A = ℕ} 0 1 = cc in absurd (omega arith)
shows_most E n e = let z : ◌≡◌ {A = ℕ} 0 1 = cc in absurd (omega arith)
shows_most F n e = let z : ◌≡◌ {A = ℕ} 0 1 = cc in absurd (omega arith)
shows_most R n e = let z : ◌≡◌ {A = ℕ} 0 1 = cc in absurd (omega arith)
shows_most XS n e = let z : ◌≡◌ {A = ℕ} 0 1 = cc in absurd (omega arith)
shows_most XF n e = let z : ◌≡◌ {A = ℕ} 0 1 = cc in absurd (omega arith)
shows_most P n e = let z : ◌≡◌ {A = ℕ} 0 1 = cc in absurd (omega arith)
shows_most Scans n e = let z : ◌≡◌ {A = ℕ} 0 1 = cc in absurd (omega arith)
shows_most W n e = let z : ◌≡◌ {A = ℕ} 0 1 = cc in absurd (omega arith)
shows_most XD n e = let z : ◌≡◌ {A = ℕ} 0 1 = cc in absurd (omega arith)
shows_most XB n e = let z : ◌≡◌ {A = ℕ} 0 1 = cc in absurd (omega arith)
shows_most Y n e = let z : ◌≡◌ {A = ℕ} 0 1 = cc in absurd (omega arith)

-- at a pace of 1 at least
rounded_most : (s pace : ℕ) → s ≤ 5112 → 1 ≤ pace → millis_at s pace ≤ 170401
rounded_most s pace hs hp =
    let fits : 200 * s + (pace + 4) ≤ (pace + 5) * 170401 = omega arith in
    let up : rounded_up s pace ≤ 170401 = div-le_of_le-mul (pace + 5) fits in
    omega arith

millis_most : (d : Doing) (number s pace : ℕ) → number ≤ 255 → s ≤ 5112 → 1 ≤ pace → millis_of d number s pace ≤ 170401
millis_most (Shows n) number s pace h hs hp = rounded_most s pace hs hp
millis_most Streams number s pace h hs hp = rounded_most s pace hs hp
millis_most Waits number s pace h hs hp = omega arith
millis_most Rests number s pace h hs hp = omega arith

-- an act that stands in a body of at most 84 bytes, at settings in range
module _ (b : List ℕ) (size : length b ≤ 84) (p : ℕ) (a : Act) (there : get b p ≡ good (act a)) (σ : Settings) (set : settings_sound σ ≡ true) where
  wide : a.widths.whole ≤ 756
  wide =
      let x = get_act b p a there in
      let s = take a.len (drop a.text b) in
      omega (arith, ap (λ (v : Widths). v.whole) x.wide, x.within, whole_most s, length-take a.len (drop a.text b))

  act_scans : scans (says_of (act a) σ) ≤ 5112
  unfolding answer_of
  act_scans = scans_most (doing_of a.kind) a.widths σ.scans wide (ranged σ set).scans_most (shows_most a.kind)

  act_millis : millis (says_of (act a) σ) ≤ 170401
  unfolding answer_of
  act_millis =
      millis_most (acts_of (doing_of a.kind) a.widths) a.number (scans_of (acts_of (doing_of a.kind) a.widths) a.widths σ.scans) σ.pace
      (range_byte a.kind a.number (get_act b p a there).range)
      act_scans
      (ranged σ set).pace_least

-- a block costs at most so much for each of its steps
module _ (b : List ℕ) (f : Performed → ℕ) (most : ℕ)
    (cheap : (p : ℕ) (a : Act) → get b p ≡ good (act a) → (σ : Settings) → settings_sound σ ≡ true → f (says_of (act a) σ) ≤ most)
    (opens : (n z : ℕ) (σ : Settings) → f (says_of (rep n z) σ) ≤ most)
    (closes : (σ : Settings) → f (says_of close σ) ≤ most) where
  leaves_sound : (t : Block) (k : List Part) (p : ℕ) (σ : Settings) → At (get b) (length b) p (flat t k) → settings_sound σ ≡ true
      → settings_sound (leaves_of t σ) ≡ true
  leaves_sound stop k p σ h s = s
  leaves_sound (one a t) k p σ h s =
      leaves_sound t k (p + a.size) (sets_of a σ) h.1.1 (behind_sound a.kind a.number σ (get_act b p a h.1.0).range s)
  leaves_sound (loop n z body t) k p σ h s =
      leaves_sound t k (past body (p + z) + 2) (leaves_of body σ) (at_past (get b) (length b) body (close ∷ flat t k) (p + z) h.1.1).1.1
      (leaves_sound body (close ∷ flat t k) (p + z) σ h.1.1 s)

  passes_most : (n a a' c c' e : ℕ) → a ≤ most * a' → c ≤ most * c' → e ≤ most → first_then n (a + e) (c + e) ≤ most * first_then n (a' + 1) (c' + 1)
  passes_most zero a a' c c' e ha hc he = omega arith
  passes_most (suc m) a a' c c' e ha hc he =
      let each : c + e ≤ most * c' + most = omega arith in
      omega (arith, mul-le-mul_left m each)

  price_most : (t : Block) (k : List Part) (p : ℕ) (σ : Settings) → At (get b) (length b) p (flat t k) → settings_sound σ ≡ true
      → price_of f t σ ≤ most * price_of ones t σ
  price_most stop k p σ h s = omega arith
  price_most (one a t) k p σ h s =
      let next = price_most t k (p + a.size) (sets_of a σ) h.1.1 (behind_sound a.kind a.number σ (get_act b p a h.1.0).range s) in
      omega (arith, cheap p a h.1.0 σ s)
  price_most (loop n z body t) k p σ h s =
      let τ = leaves_of body σ in
      let set = leaves_sound body (close ∷ flat t k) (p + z) σ h.1.1 s in
      let first = price_most body (close ∷ flat t k) (p + z) σ h.1.1 s in
      let later = price_most body (close ∷ flat t k) (p + z) τ h.1.1 set in
      let rest = price_most t k (past body (p + z) + 2) τ (at_past (get b) (length b) body (close ∷ flat t k) (p + z) h.1.1).1.1 set in
      let loops = passes_most n (price_of f body σ) (price_of ones body σ) (price_of f body τ) (price_of ones body τ) (f (says_of close σ)) first later (closes σ) in
      omega (arith, opens n z σ)

-- the totals of a program that ends fit 32 bits
module _ (b : List ℕ) (e : judge_of b ≡ Ok Finite) (σ : Settings) (set : settings_sound σ ≡ true) where
  steps_fit : price_of ones (tree_in b).block σ ≤ 3961
  steps_fit = let x = finite_ends b e σ in omega (arith, x.counts, x.most)

  pub scans_fit : price_of scans (tree_in b).block σ < 2 ^ 32
  unfolding answer_of
  scans_fit =
      let p = program b (Ok Finite) e tt in
      omega (
        arith,
        steps_fit,
        price_most b scans 5112 (act_scans b p.most) (λ n z τ. omega arith) (λ τ. omega arith) (tree_in b).block [] 0 σ (finite_stands b e) set,
      )

  pub millis_fit : price_of millis (tree_in b).block σ < 2 ^ 32
  unfolding answer_of
  millis_fit =
      let p = program b (Ok Finite) e tt in
      omega (
        arith,
        steps_fit,
        price_most b millis 170401 (act_millis b p.most) (λ n z τ. omega arith) (λ τ. omega arith) (tree_in b).block [] 0 σ (finite_stands b e) set,
      )
