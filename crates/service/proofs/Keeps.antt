-- A sound record stays sound (demand 1): of power-on, and after every receive, step and reset.
use Prim.Native.Nat.{ℕ, ◌*◌, ◌≤◌, ◌<◌}
use mathlib.Core.List.{List, ◌++◌}
use mathlib.Core.Bool.{Bool, true, false, not}
use mathlib.Core.Path.{◌≡◌, refl, sym, ap, ◌∙◌, subst}
use native.Mathlib.Omega.{arith}
use lib.Dec.{eqb, leb}
use lib.ListN.{length, get_or, take, drop, replicate, length-set, length-append, length-drop}
use lib.Seq.{length-take-le}
use borrow.Author.Tests.{leb-false, eqb-true, eqb-false}
use Rattle.basis.specs.Choice.{when, ◌and◌, ◌or◌, within}
use Rattle.basis.proofs.Choices.{and_parts, when_true}
use Rattle.basis.proofs.Laid.{length_laid}
use Rattle.std.specs.Prelude.{Result, Ok, Err, None}
use Rattle.refusal.specs.declared.Refusal.TheVariants.{Busy, OtherPacket, Unsound}
use Rattle.refusal.specs.declared.Refusal.{Refusal}
use Rattle.reader.specs.Read.{read_of}
use Rattle.reader.specs.declared.read.Packet.{Packet}
use Rattle.reader.specs.declared.read.Packet.TheVariants.{Query, Reset, Normal}
use Rattle.perform.specs.Settings.{sound_of as settings_sound}
use Rattle.perform.specs.declared.settings.Settings.{Settings}
use Rattle.judge.specs.Verdict.{Verdict, judge_of}
use Rattle.grammar.specs.Grammar.{accepted_as}
use Rattle.judge.specs.declared.Ending.TheVariants.{Finite, Endless}
use Rattle.program.specs.Table.{known}
use Rattle.std.proofs.Common.{Ok, Err}
use Rattle.room.specs.Room.{zeros_of}
use Rattle.completed.specs.Completed.{none_of as no_completed, has_of, added_of, sound_of as completed_sound}
use Rattle.completed.specs.declared.Completed.{Completed}
use Rattle.completed.proofs.Laws.{added_sound, added_room, none_sound as no_completed_sound, none_room as no_completed_room}
use Rattle.collect.specs.Slots.{Collection, collection_of, slots_in, held_of, joined_of, begun_of, none_of, same_of, stored_of}
use Rattle.collect.specs.Sound.{nothing_of, sound_of as collection_sound}
use Rattle.collect.specs.declared.Slots.{Slots}
use Rattle.room.proofs.Unused.{all_zeros}
use Rattle.collect.proofs.Kept.{held_more}
use Rattle.collect.proofs.Sounds.{sound_collecting, collecting_sound, none_sound}
use Rattle.machine.specs.Sound.{sound_of as run_sound}
use Rattle.machine.specs.Step.{ready_of, started_of, step_of as run_step}
use Rattle.machine.specs.declared.Run.{Run}
use Rattle.machine.specs.declared.Stepped.{Stepped as RunStepped}
use Rattle.machine.proofs.Sounds.{sound_parts as run_parts, ready_anywhere}
use Rattle.machine.proofs.Keeps.{ready_sound, step_ready, step_keeps}
use Rattle.machine.proofs.Follows.{started_sound, started_room, started_busy}
use Rattle.sign.specs.Sound.{collected_of, sound_of}
use Rattle.sign.specs.Reset.{start_settings, fresh_of, reset_of, power_on, cleared_of}
use Rattle.hear.specs.Join.{slot_of, body_in, Right, Open}
use Rattle.sign.specs.Join.{sign_of, stays_of, starts_of, stores_of, release_of, released_of, placed_of, goes_on, join_of}
use Rattle.sign.specs.Receive.{heard_of, receive_of}
use Rattle.sign.specs.Step.{step_of}
use Rattle.sign.specs.declared.Sign.{Sign}
use Rattle.sign.specs.declared.Received.{Received}
use Rattle.sign.specs.declared.Cleared.{Cleared}
use Rattle.sign.specs.declared.Stepped.{Stepped}
use Rattle.hear.specs.declared.Outcome.{Outcome}
use Rattle.hear.specs.declared.Outcome.TheVariants.{Repeat, Query as Asked, Reset as WasReset}
use Rattle.sign.proofs.Sounds.{Parts, sound_parts, parts_sound, ready_collects, busy_collects, ready_collected, busy_nothing}
use Rattle.sign.proofs.Stepping.{sound_steps}
use Rattle.hear.proofs.Packets.{normal_read}
use Rattle.hear.proofs.Places.{begun_open, stored_slots}
use Rattle.service.specs.Good.{Good}
use Rattle.sign.proofs.Joining.{goes_open, sound_receives}

fresh_good : (dim bright : ℕ) → settings_sound (start_settings dim bright) ≡ true → Good (fresh_of dim bright)
unfolding fresh_of ready_of begun_of
fresh_good dim bright e =
    record {
      sound = parts_sound (fresh_of dim bright)
          (record { completed = no_completed_sound; run = ready_sound (replicate 84 0) (start_settings dim bright) e; collects = none_sound no_completed });
      roomy = record { ids = no_completed_room; lens = refl; room = refl };
    }

-- power-on is sound
pub power_good : Good power_on
unfolding settings_sound
power_good = fresh_good 16 0 refl

-- threshold and brightness that were in range are so in the start settings
start_sound : (σ : Settings) → settings_sound σ ≡ true → settings_sound (start_settings σ.dim σ.bright) ≡ true
unfolding settings_sound
start_sound σ e =
    let a = and_parts (within 1 σ.pace 20) _ e in
    let b = and_parts (within 1 σ.scans 6) _ a.1 in
    (and_parts (leb σ.sink 1) _ b.1).1

pub reset_good : (s : Sign) → Good s → Good (reset_of s)
reset_good s g =
    fresh_good s.run.settings.dim s.run.settings.bright
    (start_sound s.run.settings (run_parts s.room s.run (sound_parts s g.sound).run).set)

-- where nothing is collected the slots are those of none
pub nothing_none : (x : Slots) → length x.lens ≡ 6 → nothing_of x ≡ true → x ≡ slots_in none_of
unfolding begun_of
nothing_none x size e =
    let a = and_parts (eqb x.id 0) (eqb x.total 0 and zeros_of x.lens) e in
    let b = and_parts (eqb x.total 0) (zeros_of x.lens) a.1 in
    let none : x.lens ≡ replicate 6 0 = all_zeros x.lens b.1 ∙ ap (λ (n : ℕ). replicate n 0) size in
    ap (λ (n : ℕ). made n x.total x.lens) (eqb-true x.id 0 a.0)
    ∙ ap (λ (n : ℕ). made 0 n x.lens) (eqb-true x.total 0 b.0)
    ∙ ap (made 0 0) none
  where
    made : ℕ → ℕ → List ℕ → Slots
    made id total lens = record { id = id; total = total; lens = lens }

-- a record that collects nothing, with a run that is Ready
none_good : (s : Sign) (d : Completed) → Good s → s.run.len ≡ 0 → completed_sound d ≡ true → length d.ids ≡ 4 → Good (sign_of d none_of s.run)
unfolding begun_of
none_good s d g ready known room =
    let new = sign_of d none_of s.run in
    record {
      sound = parts_sound new
          (record {
            completed = known;
            run = ready_anywhere (replicate 84 0) s.room s.run ready ∙ (sound_parts s g.sound).run;
            collects = ready_collects new ready ∙ none_sound d;
          });
      roomy = record { ids = room; lens = refl; room = refl };
    }

-- an accepted body is in the room and starts a sound run
started_good : (s : Sign) (d : Completed) (body : List ℕ) (endless : Bool) → judge_of body ≡ accepted_as endless → Good s → completed_sound d ≡ true
    → length d.ids ≡ 4
    → Good (sign_of d (body_in body) (started_of (length body) s.run.settings))
started_good s d body endless e g known room =
    let σ = s.run.settings in
    let set = (run_parts s.room s.run (sound_parts s g.sound).run).set in
    let new = sign_of d (body_in body) (started_of (length body) σ) in
    record {
      sound = parts_sound new
          (record { completed = known; run = started_sound body endless e σ set; collects = busy_collects new (started_busy body endless e σ set) });
      roomy = record { ids = room; lens = refl; room = started_room body endless e σ set };
    }

-- a release completes an ID of a packet with data that isn't completed yet
release_good : (s : Sign) (id : ℕ) (body : List ℕ) → Good s → s.run.len ≡ 0 → id ≤ 0x3F → has_of s.completed id ≡ false → Good (release_of s id body).sign
unfolding release_of
release_good s id body g ready known other = go (judge_of body) refl
  where
    d : Completed
    d = added_of s.completed id

    right : completed_sound d ≡ true
    right = added_sound s.completed id (sound_parts s g.sound).completed known other

    room : length d.ids ≡ 4
    room = added_room s.completed id g.roomy.ids

    go : (v : Verdict) → judge_of body ≡ v
        → Good (starts_of v (sign_of d (body_in body) (started_of (length body) s.run.settings)) (sign_of d none_of s.run))
    go (Ok Finite) e = started_good s d body false e g right room
    go (Ok Endless) e = started_good s d body true e g right room
    go (Err w) e = none_good s d g ready right room

-- a packet placed in a Ready record
module _ (s : Sign) (g : Good s) (ready : s.run.len ≡ 0) (c : Collection) (position : ℕ) (part : List ℕ) (lens : length c.lens ≡ 6)
    (room : length c.room ≡ 84)
    (known : c.id ≤ 0x3F)
    (other : has_of s.completed c.id ≡ false)
    (o : Open c position (length part)) where
  stores_good : held_of (stored_of c position part).lens < c.total → Good (stores_of s (stored_of c position part)).sign
  unfolding stored_of stays_of
  stores_good less =
      let p = sound_parts s g.sound in
      let there : position < length c.lens = omega (arith, o.right.below, o.right.most) in
      let more = held_more c.lens position (length part) there o.free (λ z. omega (arith, o.right.some)) in
      let at : 14 * position ≤ length c.room = omega (arith, o.right.below, o.right.most) in
      let size = length-append (take (14 * position) c.room) part in
      let fits : length (take (14 * position) c.room ++ part) ≤ length c.room =
      omega (arith, length-take-le (14 * position) c.room at, o.right.below, o.right.most, o.right.few) in
      let new = (stores_of s (stored_of c position part)).sign in
      record {
        sound = parts_sound new
            (record {
              completed = p.completed;
              run = ready_anywhere (stored_of c position part).room s.room s.run ready ∙ p.run;
              collects = ready_collects new ready
                  ∙ collecting_sound s.completed (stored_of c position part) (λ z. omega (arith, o.right.least))
                  (record { known = known; other = other; most = o.right.most; some = λ z. omega arith; missing = less })
                  (stored_slots c position part lens room o);
            });
        roomy = record {
          ids = g.roomy.ids;
          lens = length-set c.lens position (length part) ∙ lens;
          room = length_laid (take (14 * position) c.room ++ part) c.room fits ∙ room;
        };
      }

  pub placed_good : Good (placed_of s c position part).sign
  unfolding stored_of
  placed_good = go (leb c.total (held_of (stored_of c position part).lens)) refl
    where
      n : Collection
      n = stored_of c position part

      go : (t : Bool) → leb c.total (held_of n.lens) ≡ t → Good (when t (released_of s n) (stores_of s n)).sign
      go true e = release_good s c.id (joined_of n.lens n.room) g ready known other
      go false e = stores_good (leb-false c.total (held_of n.lens) e)

stays_good : (s : Sign) (o : Result Outcome Refusal) → Good s → Good (stays_of s o).sign
unfolding stays_of
stays_good s o g = g

-- a normal packet joined
goes_good : (s : Sign) → Good s → s.run.len ≡ 0 → (total position : ℕ) (part : List ℕ) → (s.slots.total ≡ 0 → ⊥)
    → Right total position (length part) → Good (goes_on s total position part).sign
goes_good s g ready total position part some right =
    go (eqb c.total total) (eqb (get_or c.lens position 0) 0) (same_of (slot_of c position) part) refl refl
  where
    c : Collection
    c = collected_of s

    go : (t u v : Bool) → eqb c.total total ≡ t → eqb (get_or c.lens position 0) 0 ≡ u
        → Good
        (when (not t) (stays_of s (Err OtherPacket)) (when u (placed_of s c position part) (when v (stays_of s (Ok Repeat)) (stays_of s (Err OtherPacket))))
        ).sign
    go false u v e f = stays_good s (Err OtherPacket) g
    go true true v e f =
        let k = sound_collecting s.completed c some (ready_collected s g.sound ready) in
        placed_good s g ready c position part g.roomy.lens g.roomy.room k.known k.other
        (goes_open s total position (length part) g.sound ready (eqb-true c.total total e) right (eqb-true (get_or c.lens position 0) 0 f))
    go true false true e f = stays_good s (Ok Repeat) g
    go true false false e f = stays_good s (Err OtherPacket) g

pub join_good : (s : Sign) → Good s → (id total position : ℕ) (part : List ℕ) → id ≤ 0x3F → Right total position (length part)
    → Good (join_of s id total position part).sign
unfolding join_of begun_of
join_good s g id total position part known right =
    go (has_of s.completed id) (eqb s.run.len 0) (eqb s.slots.total 0) (eqb s.slots.id id) refl refl refl
  where
    go : (t u v w : Bool) → has_of s.completed id ≡ t → eqb s.run.len 0 ≡ u → eqb s.slots.total 0 ≡ v
        → Good
        (when t (stays_of s (Ok Repeat))
        (when (not u) (stays_of s (Err Busy))
        (when (v or not w) (placed_of s (begun_of id total) position part) (goes_on s total position part)))
        ).sign
    go true u v w e f h = stays_good s (Ok Repeat) g
    go false false v w e f h = stays_good s (Err Busy) g
    go false true true w e f h =
        placed_good s g (eqb-true s.run.len 0 f) (begun_of id total) position part refl refl known e
        (begun_open id total position (length part) right)
    go false true false false e f h =
        placed_good s g (eqb-true s.run.len 0 f) (begun_of id total) position part refl refl known e
        (begun_open id total position (length part) right)
    go false true false true e f h = goes_good s g (eqb-true s.run.len 0 f) total position part (eqb-false s.slots.total 0 h) right

-- whatever bytes come, a sound record stays sound
pub receive_good : (s : Sign) (mid : ℕ) (b : List ℕ) → Good s → Good (receive_of s mid b).sign
receive_good s mid b g =
    subst (λ (r : Received). Good r.sign) (sym (sound_receives s mid b g.sound)) (go (read_of mid b) refl)
  where
    go : (r : Result Packet Refusal) → read_of mid b ≡ r → Good (heard_of s b r).sign
    go (Ok Query) e = stays_good s (Ok Asked) g
    go (Ok Reset) e = stays_good (reset_of s) (Ok WasReset) (reset_good s g)
    go (Err x) e = stays_good s (Err x) g
    go (Ok (Normal id total position len)) e =
        let w = normal_read mid b id total position len e in
        let size : length (take len (drop 5 b)) ≡ len = length-take-le len (drop 5 b) (omega (arith, length-drop 5 b, w.size)) in
        join_good s g id total position (take len (drop 5 b)) w.known (subst (λ (n : ℕ). Right total position n) (sym size) w.right)

-- a step keeps it too: a run that goes on has its body in the room, one that ends leaves the room empty, and one that rests stays
pub step_good : (s : Sign) → Good s → Good (step_of s).sign
unfolding begun_of
step_good s g = subst (λ (r : Stepped). Good r.sign) (sym (sound_steps s g.sound)) (go (eqb s.run.len 0) refl)
  where
    went : Run
    went = (run_step s.room s.run).run

    p : Parts s
    p = sound_parts s g.sound

    kept : run_sound s.room went ≡ true
    kept = step_keeps s.room s.run p.run

    -- the record with the run that went on, in a room
    new : List ℕ → Sign
    new room = record { completed = s.completed; slots = s.slots; room = room; run = went }

    ended : (s.run.len ≡ 0 → ⊥) → went.len ≡ 0 → Good (new (replicate 84 0))
    ended busy rests =
        let none : s.slots ≡ slots_in none_of = nothing_none s.slots g.roomy.lens (busy_nothing s g.sound busy) in
        record {
          sound = parts_sound (new (replicate 84 0))
              (record {
                completed = p.completed;
                run = ready_anywhere (replicate 84 0) s.room went rests ∙ kept;
                collects = ready_collects (new (replicate 84 0)) rests
                    ∙ ap (λ (x : Slots). collection_sound s.completed (collection_of x (replicate 84 0))) none
                    ∙ none_sound s.completed;
              });
          roomy = record { ids = g.roomy.ids; lens = g.roomy.lens; room = refl };
        }

    goes : (s.run.len ≡ 0 → ⊥) → (went.len ≡ 0 → ⊥) → Good (new s.room)
    goes busy on =
        record {
          sound = parts_sound (new s.room)
              (record { completed = p.completed; run = kept; collects = busy_collects (new s.room) on ∙ busy_nothing s g.sound busy });
          roomy = record { ids = g.roomy.ids; lens = g.roomy.lens; room = g.roomy.room };
        }

    after : (t : Bool) → eqb went.len 0 ≡ t → (s.run.len ≡ 0 → ⊥) → Good (new (when t (replicate 84 0) s.room))
    after true e busy = ended busy (eqb-true went.len 0 e)
    after false e busy = goes busy (eqb-false went.len 0 e)

    go : (t : Bool) → eqb s.run.len 0 ≡ t → Good (new (when (not t and eqb went.len 0) (replicate 84 0) s.room))
    go true e =
        let same : run_step s.room s.run ≡ record { run = s.run; answer = Ok None } =
        step_ready s.room s.run p.run (eqb-true s.run.len 0 e) in
        subst (λ (x : RunStepped). Good (record { completed = s.completed; slots = s.slots; room = s.room; run = x.run })) (sym same) g
    go false e = after (eqb went.len 0) refl (eqb-false s.run.len 0 e)

-- and so does the call of a reset
pub cleared_good : (s : Sign) → Good s → Good (cleared_of s).sign
unfolding cleared_of
cleared_good s g =
    let q : cleared_of s ≡ record { sign = reset_of s; outcome = Ok WasReset } =
    when_true (sound_of s) (record { sign = reset_of s; outcome = Ok WasReset }) (record { sign = s; outcome = Err Unsound }) g.sound in
    subst (λ (x : Cleared). Good x.sign) (sym q) (reset_good s g)
