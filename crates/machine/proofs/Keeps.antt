-- A step keeps a sound run sound.
use Prim.Native.Nat.{ℕ, zero, suc, ◌+◌, ◌≤◌, ◌<◌}
use mathlib.Core.List.{List, [], ◌∷◌}
use mathlib.Core.Bool.{Bool, true, false}
use mathlib.Core.Path.{◌≡◌, refl, sym, ap, ◌∙◌, subst}
use mathlib.Core.Logic.{dite}
use native.Mathlib.Decide.{dec_lt}
use native.Mathlib.Omega.{arith}
use lib.Dec.{eqb, ltb, leb}
use lib.ListN.{length}
use lib.Seq.{length-take-le}
use borrow.Author.Tests.{le-leb, lt-leb, eq-eqb, ne_eqb, eqb-true, eqb-false}
use Rattle.basis.specs.Choice.{when}
use Rattle.basis.proofs.Choices.{when_true, when_false, and_parts, and_true, within_parts, within_true}
use Rattle.std.specs.Prelude.{Ok, Err, Option, Some, None}
use Rattle.refusal.specs.declared.Refusal.TheVariants.{Unsound}
use Rattle.perform.specs.Settings.{sound_of as settings_sound}
use Rattle.perform.specs.declared.settings.Settings.{Settings}
use Rattle.loops.specs.Token.{Part, act, rep, close, forever, again, Tok, good, size_of, get}
use Rattle.loops.specs.Structure.{structure_of, role_in, opened, kept}
use Rattle.judge.specs.Standing.{inside_of, stand_of}
use Rattle.grammar.specs.Reach.{Reach, start, past}
use Rattle.loops.specs.declared.Open.{Open}
use Rattle.judge.specs.declared.Standing.{Standing}
use Rattle.judge.specs.declared.Standing.TheVariants.{Outside, Inside}
use Rattle.grammar.proofs.Standings.{At, at_stands}
use Rattle.course.specs.Steps.{Frame, frame, State, ready, at, settle, sets_of, goes_of, went_at, next_of, said_of}
use Rattle.loops.proofs.Values.{get_loop, get_act}
use Rattle.machine.specs.Sound.{body_of, held_of, sound_of}
use Rattle.machine.specs.Step.{outside, frames_of, loop_of, ready_of, run_of, say_of, went_of, step_of}
use Rattle.machine.specs.Moves.{ran_of}
use Rattle.machine.specs.declared.Loop.{Loop as Inner}
use Rattle.machine.specs.declared.Run.{Run}
use Rattle.machine.specs.declared.Stepped.{Stepped}
use Rattle.machine.proofs.Moves.{settle_is}
use Rattle.machine.proofs.Ranges.{behind_sound}
use Rattle.machine.proofs.Reached.{here, Opened, Opens, reach_opens, reach_one}
use Rattle.machine.proofs.Sounds.{Parts, sound_parts, resting, running, busy_at}

-- a run that holds no body is sound where its settings are
pub ready_sound : (room : List ℕ) (σ : Settings) → settings_sound σ ≡ true → sound_of room (ready_of σ) ≡ true
unfolding ready_of
ready_sound room σ e = resting room (ready_of σ) e refl

-- a run of the same body at another place, held there
placed_sound : (room : List ℕ) (r : Run) (q : ℕ) (l : Inner) (σ : Settings) → Parts room r → (r.len ≡ 0 → ⊥) → settings_sound σ ≡ true
    → held_of (stand_of (body_of room r) q) l ≡ true
    → sound_of room (record { len = r.len; place = q; inner = l; settings = σ }) ≡ true
placed_sound room r q l σ p busy e h =
    running room (record { len = r.len; place = q; inner = l; settings = σ }) e busy (p.filled busy) ∙ h

-- a settled run
settled_sound : (room : List ℕ) (r : Run) (q : ℕ) (fs : List Frame) (σ : Settings) → Parts room r → (r.len ≡ 0 → ⊥) → settings_sound σ ≡ true
    → (q < r.len → held_of (stand_of (body_of room r) q) (loop_of fs) ≡ true)
    → sound_of room (run_of r (settle r.len q fs σ)) ≡ true
settled_sound room r q fs σ p busy e h =
    ap (sound_of room) (settle_is r q fs σ)
    ∙ dite (dec_lt q r.len)
    (λ within.
    ap (sound_of room) (when_false (leb r.len q) (ready_of σ) _ (lt-leb r.len q within))
    ∙ placed_sound room r q (loop_of fs) σ p busy e (h within))
    (λ other.
    let behind : r.len ≤ q = omega arith in
    ap (sound_of room) (when_true (leb r.len q) (ready_of σ) _ (le-leb r.len q behind)) ∙ ready_sound room σ e)

-- a place that judging reaches in an accepted body stands in its open loops
pub reached_stands : (b : List ℕ) (p q : ℕ) (s : Option Standing) (x : At b p s) (m : ℕ) (e : Bool) (o : List Open) → Reach (get b) 1 q m e o → q < length b
    → stand_of b q ≡ Some (inside_of o)
reached_stands b p q s x m e o r within =
    at_stands b q (Some (inside_of o))
    (record { endless = x.endless; accepted = x.accepted; within = within; room = m; ended = e; opens = o; reached = r; stands = refl })

-- what a record can hold of open loops: none, or one with a count left
abbrev pub Normal : State → Type 0
Normal (ready σ) = Unit
Normal (at p fs σ) = frames_of (loop_of fs) ≡ fs

settle_normal : (len q : ℕ) (fs : List Frame) (σ : Settings) → frames_of (loop_of fs) ≡ fs → Normal (settle len q fs σ)
unfolding settle
settle_normal len q fs σ e = go (ltb q len)
  where
    go : (t : Bool) → Normal (when t (at q fs σ) (ready σ))
    go true = e
    go false = tt

one_normal : (place left : ℕ) → 1 ≤ left → frames_of (loop_of (frame place left ∷ [])) ≡ frame place left ∷ []
one_normal place left h = when_false (eqb left 0) _ _ (ne_eqb left 0 (λ e. omega arith))

-- a state of the run's body whose record is sound and holds all its loops
abbrev pub Kept : List ℕ → Run → State → Type 0
Kept room r s = (sound_of room (run_of r s) ≡ true) × Normal s

-- outside loops the record holds none
outside_held : (l : Inner) → held_of (Some Outside) l ≡ true → frames_of l ≡ []
outside_held l h =
    let p = and_parts (eqb l.place 0) (eqb l.left 0) h in
    when_true (eqb l.left 0) _ _ p.1

-- inside a loop it holds the place behind the `L` and a count from 1 to its number
inside_held : (behind number : ℕ) (l : Inner) → held_of (Some (Inside behind number)) l ≡ true
    → (frames_of l ≡ frame behind l.left ∷ []) × ((1 ≤ l.left) × (l.left ≤ number))
inside_held behind number l h =
    let p = and_parts (eqb l.place behind) _ h in
    let q = within_parts 1 l.left number p.1 in
    let least = q.0 in
    let place = eqb-true l.place behind p.0 in (
      when_false (eqb l.left 0) _ _ (ne_eqb l.left 0 (λ z. omega arith)) ∙ ap (λ (n : ℕ). frame n l.left ∷ []) place,
      q,
    )

-- and such a loop is held
holds_inside : (behind number left : ℕ) → 1 ≤ left → left ≤ number → held_of (Some (Inside behind number)) (record { place = behind; left = left }) ≡ true
holds_inside behind number left least most =
    and_true (eqb behind behind) _ (eq-eqb behind behind refl)
    (within_true 1 left number least most)

module _ (room : List ℕ) (r : Run) (sound : sound_of room r ≡ true) (busy : r.len ≡ 0 → ⊥)
    (x : At (body_of room r) r.place (stand_of (body_of room r) r.place)) where
  -- a place of the body that judging reaches, settled with a loop that is held there
  reached_sound : (q m : ℕ) (e : Bool) (o : List Open) (fs : List Frame) (σ : Settings) → Reach (get (body_of room r)) 1 q m e o → settings_sound σ ≡ true
      → held_of (Some (inside_of o)) (loop_of fs) ≡ true
      → frames_of (loop_of fs) ≡ fs
      → Kept room r (settle r.len q fs σ)
  reached_sound q m e o fs σ reach set held normal =
      let parts = sound_parts room r sound in
      let whole : length (body_of room r) ≡ r.len = length-take-le r.len room parts.fits in (
        settled_sound room r q fs σ parts busy set
            (λ within.
            let less : q < length (body_of room r) = omega arith in
            ap (λ (s : Option Standing). held_of s (loop_of fs))
            (reached_stands (body_of room r) r.place q (stand_of (body_of room r) r.place) x m e o reach less)
            ∙ held),
        settle_normal r.len q fs σ normal,
      )

  -- behind the command at the run's place, within no loop
  free_keeps : (m : ℕ) (c : Part) → get (body_of room r) r.place ≡ good c → (m' : ℕ) (e' : Bool) (o' : List Open)
      → structure_of (role_in c) m (opened r.place c) [] ≡ kept m' e' o'
      → Reach (get (body_of room r)) 1 (r.place + size_of c) m' e' o'
      → Kept room r (goes_of r.len c r.place [] r.settings)
  free_keeps m (act a) g m' e' o' k next =
      let none : [] ≡ o' = cc in
      let set = behind_sound a.kind a.number r.settings (get_act (body_of room r) r.place a g).range
      (sound_parts room r sound).set in
      reached_sound (r.place + a.size) m' e' o' [] (sets_of a r.settings) next set
      (ap (λ (o : List Open). held_of (Some (inside_of o)) outside) (sym none))
      refl
  free_keeps zero (rep n z) g m' e' o' k next = let w : ◌≡◌ {A = ℕ} 0 1 = cc in absurd (omega arith)
  free_keeps (suc m) (rep n z) g m' e' o' k next =
      let one : opened r.place (rep n z) ∷ [] ≡ o' = cc in
      let l = get_loop (body_of room r) r.place n z g in
      reached_sound (r.place + z) m' e' o' (frame (r.place + z) n ∷ []) r.settings next (sound_parts room r sound).set
      (ap (λ (o : List Open). held_of (Some (inside_of o)) (record { place = r.place + z; left = n })) (sym one)
      ∙ holds_inside (r.place + z) n n l.least (omega arith))
      (one_normal (r.place + z) n l.least)
  free_keeps m close g m' e' o' k next = let w : ◌≡◌ {A = ℕ} 0 1 = cc in absurd (omega arith)
  free_keeps m forever g m' e' o' k next = let w : ◌≡◌ {A = ℕ} 0 1 = cc in absurd (omega arith)
  free_keeps m again g m' e' o' k next = reached_sound 0 1 false [] [] r.settings start (sound_parts room r sound).set refl refl

  -- and within a loop
  loop_keeps : (m : ℕ) (l : Open) (left : ℕ) → m + 1 ≡ 1 → 1 ≤ left → left ≤ l.number → Opened (body_of room r) r.place l → (c : Part)
      → get (body_of room r) r.place ≡ good c
      → (m' : ℕ) (e' : Bool) (o' : List Open)
      → structure_of (role_in c) m (opened r.place c) (l ∷ []) ≡ kept m' e' o'
      → Reach (get (body_of room r)) 1 (r.place + size_of c) m' e' o'
      → Kept room r (goes_of r.len c r.place (frame l.behind left ∷ []) r.settings)
  loop_keeps m l left none least most w (act a) g m' e' o' k next =
      let one : l ∷ [] ≡ o' = cc in
      let set = behind_sound a.kind a.number r.settings (get_act (body_of room r) r.place a g).range
      (sound_parts room r sound).set in
      reached_sound (r.place + a.size) m' e' o' (frame l.behind left ∷ []) (sets_of a r.settings) next set
      (ap (λ (o : List Open). held_of (Some (inside_of o)) (record { place = l.behind; left = left })) (sym one)
      ∙ holds_inside l.behind l.number left least most)
      (one_normal l.behind left least)
  loop_keeps zero l left none least most w (rep n z) g m' e' o' k next = let v : ◌≡◌ {A = ℕ} 0 1 = cc in absurd (omega arith)
  loop_keeps (suc m) l left none least most w (rep n z) g m' e' o' k next = absurd (omega arith)
  loop_keeps m l zero none least most w close g m' e' o' k next = absurd (omega arith)
  loop_keeps m l (suc zero) none least most w close g m' e' o' k next =
      let out : [] ≡ o' = cc in
      reached_sound (r.place + 2) m' e' o' [] r.settings next (sound_parts room r sound).set
      (ap (λ (o : List Open). held_of (Some (inside_of o)) outside) (sym out))
      refl
  loop_keeps m l (suc (suc j)) none least most w close g m' e' o' k next =
      reached_sound l.behind w.room false (l ∷ []) (frame l.behind (suc j) ∷ []) r.settings w.reached (sound_parts room r sound).set
      (holds_inside l.behind l.number (suc j) (omega arith) (omega arith))
      (one_normal l.behind (suc j) (omega arith))
  loop_keeps m l left none least most w forever g m' e' o' k next =
      reached_sound l.behind w.room false (l ∷ []) (frame l.behind left ∷ []) r.settings w.reached (sound_parts room r sound).set
      (holds_inside l.behind l.number left least most)
      (one_normal l.behind left least)
  loop_keeps m l left none least most w again g m' e' o' k next = let v : ◌≡◌ {A = ℕ} 0 1 = cc in absurd (omega arith)

  -- so behind whatever command stands there
  part_keeps : (m : ℕ) (o : List Open) → m + length o ≡ 1 → Opens (body_of room r) r.place o → held_of (Some (inside_of o)) r.inner ≡ true → (c : Part)
      → get (body_of room r) r.place ≡ good c
      → (m' : ℕ) (e' : Bool) (o' : List Open)
      → structure_of (role_in c) m (opened r.place c) o ≡ kept m' e' o'
      → Reach (get (body_of room r)) 1 (r.place + size_of c) m' e' o'
      → Kept room r (goes_of r.len c r.place (frames_of r.inner) r.settings)
  part_keeps m [] one w held c g m' e' o' k next =
      subst (λ (fs : List Frame). Kept room r (goes_of r.len c r.place fs r.settings)) (sym (outside_held r.inner held))
      (free_keeps m c g m' e' o' k next)
  part_keeps m (l ∷ []) one w held c g m' e' o' k next =
      let i = inside_held l.behind l.number r.inner held in
      subst (λ (fs : List Frame). Kept room r (goes_of r.len c r.place fs r.settings)) (sym i.0)
      (loop_keeps m l r.inner.left one i.1.0 i.1.1 w c g m' e' o' k next)
  part_keeps m (l ∷ l2 ∷ o) one w held c g m' e' o' k next = absurd w

-- a Busy sound run gone on by one command is sound
pub run_keeps : (room : List ℕ) (r : Run) → sound_of room r ≡ true → (r.len ≡ 0 → ⊥)
    → Kept room r (next_of (get (body_of room r)) r.len (at r.place (frames_of r.inner) r.settings))
run_keeps room r sound busy =
    let b = body_of room r in
    let p = r.place in
    let x = busy_at room r sound busy in
    let h = here b p (stand_of b p) x in
    let reach : Reach (get b) 1 p x.room false x.opens = subst (λ (e : Bool). Reach (get b) 1 p x.room e x.opens) h.going x.reached in
    let held : held_of (Some (inside_of x.opens)) r.inner ≡ true =
    ap (λ (s : Option Standing). held_of s r.inner) (sym x.stands) ∙ (sound_parts room r sound).held busy in
    subst (λ (t : Tok). Kept room r (went_at r.len t p (frames_of r.inner) r.settings)) (sym h.there)
    (part_keeps room r sound busy x x.room x.opens (reach_one b reach) (reach_opens b reach) held h.part h.there h.room
    h.ended
    h.opens
    h.stays
    (past reach h.there h.stays))

-- a step of a Ready run, of a Busy one, and of an unsound one
pub step_ready : (room : List ℕ) (r : Run) → sound_of room r ≡ true → r.len ≡ 0 → step_of room r ≡ record { run = r; answer = Ok None }
unfolding step_of
step_ready room r sound none =
    when_true (sound_of room r) (went_of room r) _ sound ∙ when_true (eqb r.len 0) _ _ (eq-eqb r.len 0 none)

pub step_busy : (room : List ℕ) (r : Run) → sound_of room r ≡ true → (r.len ≡ 0 → ⊥) → step_of room r ≡ ran_of (body_of room r) r
unfolding step_of
step_busy room r sound busy =
    when_true (sound_of room r) (went_of room r) _ sound
    ∙ when_false (eqb r.len 0) _ _ (ne_eqb r.len 0 busy)
    ∙ ap (λ (s : State). record { run = run_of r (next_of (get (body_of room r)) r.len s); answer = say_of (said_of (get (body_of room r)) s) })
    (when_false (eqb r.len 0) _ _ (ne_eqb r.len 0 busy))

pub step_unsound : (room : List ℕ) (r : Run) → sound_of room r ≡ false → step_of room r ≡ record { run = r; answer = Err Unsound }
unfolding step_of
step_unsound room r ill = when_false (sound_of room r) (went_of room r) _ ill

-- a step keeps a sound run sound
pub step_keeps : (room : List ℕ) (r : Run) → sound_of room r ≡ true → sound_of room (step_of room r).run ≡ true
step_keeps room r sound = go (eqb r.len 0) refl
  where
    go : (t : Bool) → eqb r.len 0 ≡ t → sound_of room (step_of room r).run ≡ true
    go true e =
        ap (λ (x : Stepped). sound_of room x.run) (step_ready room r sound (eqb-true r.len 0 e)) ∙ sound
    go false e =
        let busy = eqb-false r.len 0 e in
        ap (λ (x : Stepped). sound_of room x.run) (step_busy room r sound busy) ∙ (run_keeps room r sound busy).0
