-- A query, a repeat and a refusal leave the record (demand 1), and a Busy record is left by all bytes but a reset for this MID, with
-- the running body in its room: so what comes between the steps of a running line changes none of them.
use Prim.Native.Nat.{ℕ}
use mathlib.Core.List.{List, [], ◌∷◌}
use mathlib.Core.Bool.{Bool, true, false, not}
use mathlib.Core.Path.{◌≡◌, refl, sym, ap, ◌∙◌, subst}
use native.Mathlib.Omega.{arith}
use lib.Dec.{eqb, leb}
use lib.ListN.{get_or, take, drop}
use borrow.Author.Tests.{ne_eqb, eqb-true, eqb-false}
use Rattle.basis.specs.Choice.{when, ◌or◌}
use Rattle.std.specs.Prelude.{Result, Ok, Err, Option}
use Rattle.perform.specs.declared.price.Performed.{Performed}
use Rattle.refusal.specs.declared.Refusal.TheVariants.{Busy, OtherPacket, Unsound}
use Rattle.refusal.specs.declared.Refusal.{Refusal}
use Rattle.completed.specs.Completed.{has_of}
use Rattle.collect.specs.Slots.{Collection, held_of, begun_of, same_of, stored_of}
use Rattle.reader.specs.Read.{read_of}
use Rattle.reader.specs.declared.read.Packet.{Packet}
use Rattle.reader.specs.declared.read.Packet.TheVariants.{Query as QueryRead, Reset as ResetRead, Normal}
use Rattle.loops.specs.Token.{get}
use Rattle.course.specs.Steps.{Said, did, idle, at, said_of}
use Rattle.machine.specs.Step.{frames_of, say_of, step_of as run_step}
use Rattle.machine.specs.Sound.{body_of, sound_of as run_sound}
use Rattle.sign.specs.Sound.{collected_of, sound_of}
use Rattle.sign.specs.Reset.{reset_of, cleared_of}
use Rattle.hear.specs.Join.{slot_of}
use Rattle.sign.specs.Join.{stays_of, stores_of, release_of, released_of, counted_of, placed_of, goes_on, join_of}
use Rattle.sign.specs.Receive.{heard_of, receive_of}
use Rattle.sign.specs.Step.{step_of}
use Rattle.service.specs.Driver.{moves_of, moves_completed, Event, step, bytes, after_events, said_events, after_steps, said_steps, steps_in, Undisturbed}
use Rattle.sign.specs.declared.Sign.{Sign}
use Rattle.sign.specs.declared.Received.{Received}
use Rattle.sign.specs.declared.Cleared.{Cleared}
use Rattle.sign.specs.declared.Stepped.{Stepped}
use Rattle.hear.specs.Hear.{body_length}
use Rattle.hear.specs.declared.Outcome.{Outcome}
use Rattle.hear.specs.declared.Outcome.TheVariants.{Query, Reset, Repeat, Stored, Released}
use Rattle.machine.specs.declared.Stepped.{Stepped as RunStepped}
use Rattle.machine.proofs.Keeps.{step_ready, step_busy}
use Rattle.sign.proofs.Joining.{sound_receives, unsound_receives}
use Rattle.sign.proofs.Sounds.{sound_parts}
use Rattle.sign.proofs.Stepping.{sound_steps, unsound_steps}

-- what holds of a record that stays, of one with a packet in its collection, and of a reset, holds of whatever bytes come
module _ (s : Sign) (P : Received → Type 0) (stays : (o : Result Outcome Refusal) → P (stays_of s o)) (counted : (c : Collection) → P (counted_of s c)) where
  join_any : (id total position : ℕ) (part : List ℕ) → P (join_of s id total position part)
  unfolding join_of
  join_any id total position part =
      go (has_of s.completed id) (eqb s.run.len 0) (eqb s.slots.total 0 or not (eqb s.slots.id id)) (eqb s.slots.total total)
      (eqb (get_or s.slots.lens position 0) 0)
      (same_of (slot_of (collected_of s) position) part)
    where
      go : (t u v w x y : Bool)
          → P
          (when t (stays_of s (Ok Repeat))
          (when (not u) (stays_of s (Err Busy))
          (when v (placed_of s (begun_of id total) position part)
          (when (not w) (stays_of s (Err OtherPacket)) (when x (placed_of s (collected_of s) position part) (when y (stays_of s (Ok Repeat)) (stays_of s (Err OtherPacket))))))))
      go true u v w x y = stays (Ok Repeat)
      go false false v w x y = stays (Err Busy)
      go false true true w x y = counted (stored_of (begun_of id total) position part)
      go false true false false x y = stays (Err OtherPacket)
      go false true false true true y = counted (stored_of (collected_of s) position part)
      go false true false true false true = stays (Ok Repeat)
      go false true false true false false = stays (Err OtherPacket)

  pub receive_any : P (stays_of (reset_of s) (Ok Reset)) → (mid : ℕ) (b : List ℕ) → P (receive_of s mid b)
  receive_any reset mid b = go (sound_of s) refl
    where
      heard : (r : Result Packet Refusal) → P (heard_of s b r)
      heard (Ok QueryRead) = stays (Ok Query)
      heard (Ok ResetRead) = reset
      heard (Ok (Normal id total position len)) = join_any id total position (take len (drop 5 b))
      heard (Err e) = stays (Err e)

      go : (t : Bool) → sound_of s ≡ t → P (receive_of s mid b)
      go true e = subst P (sym (sound_receives s mid b e)) (heard (read_of mid b))
      go false e = subst P (sym (unsound_receives s mid b e)) (stays (Err Unsound))

moved : {A : Type 0} → true ≡ false → A
moved e = let z : ◌≡◌ {A = ℕ} 0 1 = cc in absurd (omega arith)

-- a query, a repeat and a refusal leave the record, sound or not, and no body comes with them
pub receive_stays : (s : Sign) (mid : ℕ) (b : List ℕ) → moves_of (receive_of s mid b).outcome ≡ false
    → receive_of s mid b ≡ stays_of s (receive_of s mid b).outcome
unfolding stays_of release_of
receive_stays s mid b =
    receive_any s (λ r. moves_of r.outcome ≡ false → r ≡ stays_of s r.outcome) (λ o e. refl)
    (λ c. counted c (leb c.total (held_of c.lens)))
    (λ e. moved e)
    mid
    b
  where
    counted : (c : Collection) (t : Bool)
        → moves_of (when t (released_of s c) (stores_of s c)).outcome ≡ false
        → when t (released_of s c) (stores_of s c) ≡ stays_of s (when t (released_of s c) (stores_of s c)).outcome
    counted c true e = moved e
    counted c false e = moved e

-- whatever comes, but for a reset and a release, leaves the completed IDs
pub receive_completed : (s : Sign) (mid : ℕ) (b : List ℕ) → moves_completed (receive_of s mid b).outcome ≡ false
    → (receive_of s mid b).sign.completed ≡ s.completed
unfolding stays_of release_of
receive_completed s mid b =
    receive_any s (λ r. moves_completed r.outcome ≡ false → r.sign.completed ≡ s.completed) (λ o e. refl)
    (λ c. counted c (leb c.total (held_of c.lens)))
    (λ e. moved e)
    mid
    b
  where
    counted : (c : Collection) (t : Bool) → moves_completed (when t (released_of s c) (stores_of s c)).outcome ≡ false
        → (when t (released_of s c) (stores_of s c)).sign.completed ≡ s.completed
    counted c true e = moved e
    counted c false e = refl

pub receive_still : (s : Sign) (mid : ℕ) (b : List ℕ) → moves_of (receive_of s mid b).outcome ≡ false → (receive_of s mid b).sign ≡ s
unfolding stays_of
receive_still s mid b h = ap (λ (r : Received). r.sign) (receive_stays s mid b h)

-- an outcome that comes with no other record releases no body
still_length : (o : Result Outcome Refusal) → moves_of o ≡ false → body_length o ≡ 0
still_length (Ok Query) e = refl
still_length (Ok Reset) e = refl
still_length (Ok Repeat) e = refl
still_length (Ok Stored) e = refl
still_length (Ok (Released v len)) e = moved e
still_length (Err x) e = refl

pub receive_none : (s : Sign) (mid : ℕ) (b : List ℕ) → moves_of (receive_of s mid b).outcome ≡ false
    → take (body_length (receive_of s mid b).outcome) (receive_of s mid b).body ≡ []
receive_none s mid b h = ap (λ (n : ℕ). take n (receive_of s mid b).body) (still_length (receive_of s mid b).outcome h)

-- a Busy record is left by every packet that isn't a reset, its run and its room too
busy_join : (s : Sign) (id total position : ℕ) (part : List ℕ) → (s.run.len ≡ 0 → ⊥) → (join_of s id total position part).sign ≡ s
unfolding join_of stays_of
busy_join s id total position part busy = go (has_of s.completed id) (eqb s.run.len 0) (ne_eqb s.run.len 0 busy)
  where
    go : (t u : Bool) → u ≡ false
        → (when t (stays_of s (Ok Repeat))
        (when (not u) (stays_of s (Err Busy))
        (when (eqb s.slots.total 0 or not (eqb s.slots.id id)) (placed_of s (begun_of id total) position part) (goes_on s total position part)))
        ).sign
        ≡ s
    go true u e = refl
    go false false e = refl
    go false true e = moved e

pub busy_stays : (s : Sign) (mid : ℕ) (b : List ℕ) → (s.run.len ≡ 0 → ⊥) → (read_of mid b ≡ Ok ResetRead → ⊥) → (receive_of s mid b).sign ≡ s
unfolding stays_of
busy_stays s mid b busy other = go (sound_of s) refl
  where
    heard : (r : Result Packet Refusal) → read_of mid b ≡ r → (heard_of s b r).sign ≡ s
    heard (Ok QueryRead) e = refl
    heard (Ok ResetRead) e = absurd (other e)
    heard (Ok (Normal id total position len)) e = busy_join s id total position (take len (drop 5 b)) busy
    heard (Err x) e = refl

    go : (t : Bool) → sound_of s ≡ t → (receive_of s mid b).sign ≡ s
    go true e = ap (λ (r : Received). r.sign) (sound_receives s mid b e) ∙ heard (read_of mid b) refl
    go false e = ap (λ (r : Received). r.sign) (unsound_receives s mid b e)

-- the steps of a running line, whatever comes between them, are the steps alone
pub driver_after : (mid : ℕ) (es : List Event) (s : Sign) → Undisturbed mid es s → after_events mid es s ≡ after_steps (steps_in es) s
driver_after mid [] s u = refl
driver_after mid (step ∷ es) s u = driver_after mid es (step_of s).sign u
driver_after mid (bytes b ∷ es) s u =
    ap (after_events mid es) (busy_stays s mid b u.0 u.1.0) ∙ driver_after mid es s u.1.1

pub driver_said : (mid : ℕ) (es : List Event) (s : Sign) → Undisturbed mid es s → said_events mid es s ≡ said_steps (steps_in es) s
driver_said mid [] s u = refl
driver_said mid (step ∷ es) s u = ap (λ (xs : List (Result (Option Performed) Refusal)). (step_of s).answer ∷ xs) (driver_said mid es (step_of s).sign u)
driver_said mid (bytes b ∷ es) s u = ap (said_events mid es) (busy_stays s mid b u.0 u.1.0) ∙ driver_said mid es s u.1.1

-- a refused step leaves the record: only an unsound one is refused
pub step_still : (s : Sign) (no_step : Refusal) → (step_of s).answer ≡ Err no_step → (step_of s).sign ≡ s
step_still s no_step h = go (sound_of s) refl
  where
    said : (x : Said) → say_of x ≡ Err no_step → (step_of s).sign ≡ s
    said (did x) e = let z : ◌≡◌ {A = ℕ} 0 1 = cc in absurd (omega arith)
    said idle e = let z : ◌≡◌ {A = ℕ} 0 1 = cc in absurd (omega arith)

    go : (t : Bool) → sound_of s ≡ t → (step_of s).sign ≡ s
    go false e = ap (λ (x : Stepped). x.sign) (unsound_steps s e)
    go true e = ran (eqb s.run.len 0) refl
      where
        run : run_sound s.room s.run ≡ true
        run = (sound_parts s e).run

        answer : (run_step s.room s.run).answer ≡ Err no_step
        answer = sym (ap (λ (x : Stepped). x.answer) (sound_steps s e)) ∙ h

        ran : (t : Bool) → eqb s.run.len 0 ≡ t → (step_of s).sign ≡ s
        ran true q = said idle (sym (ap (λ (x : RunStepped). x.answer) (step_ready s.room s.run run (eqb-true s.run.len 0 q))) ∙ answer)
        ran false q =
            said (said_of (get (body_of s.room s.run)) (at s.run.place (frames_of s.run.inner) s.run.settings))
            (sym (ap (λ (x : RunStepped). x.answer) (step_busy s.room s.run run (eqb-false s.run.len 0 q))) ∙ answer)

-- and so does a refused reset
pub reset_still : (s : Sign) (e : Refusal) → (cleared_of s).outcome ≡ Err e → (cleared_of s).sign ≡ s
unfolding cleared_of
reset_still s e h = go (sound_of s) h
  where
    whether : Bool → Cleared
    whether t = when t (record { sign = reset_of s; outcome = Ok Reset }) (record { sign = s; outcome = Err Unsound })

    go : (t : Bool) → (whether t).outcome ≡ Err e → (whether t).sign ≡ s
    go false q = refl
    go true q = let z : ◌≡◌ {A = ℕ} 0 1 = cc in absurd (omega arith)
