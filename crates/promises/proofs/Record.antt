-- Ours obeys the rules of the record.
use Prim.Native.Nat.{ℕ, ◌+◌, ◌≤◌, ◌<◌}
use mathlib.Core.Bool.{Bool, true, false, not}
use mathlib.Core.List.{List, [], ◌∷◌}
use mathlib.Core.Path.{◌≡◌, refl, sym, ap, ◌∙◌, subst}
use native.Mathlib.Omega.{arith}
use lib.Dec.{eqb, leb}
use lib.ListN.{length, take, drop, replicate}
use borrow.Author.Tests.{eqb-true, eqb-false}
use Rattle.basis.specs.Choice.{when, ◌and◌}
use Rattle.basis.specs.Rows.{Row, first_of}
use Rattle.basis.specs.Told.{Told}
use Rattle.basis.proofs.Choices.{when_true}
use Rattle.basis.proofs.Tests.{tests}
use Rattle.std.specs.Prelude.{Ok, Result, None}
use Rattle.refusal.specs.declared.Refusal.{Refusal}
use Rattle.packet.specs.Mid.{mid_row}
use Rattle.packet.specs.Write.{short_by, buffer_of, written_of}
use Rattle.reader.specs.Read.{read_of}
use Rattle.reader.specs.declared.read.Packet.TheVariants.{Normal}
use Rattle.perform.specs.Price.{answer_of as performed_of}
use Rattle.perform.specs.declared.settings.Settings.{Settings}
use Rattle.loops.specs.Token.{Tok, good as right, bad, act, rep, close, forever, again as repeats, get}
use Rattle.loops.proofs.Values.{get_act}
use Rattle.course.specs.Steps.{said_at}
use Rattle.machine.specs.Sound.{sound_of as run_sound}
use Rattle.machine.specs.Step.{say_of, step_of as run_step, told_of as answer_told}
use Rattle.machine.specs.declared.Stepped.{Stepped as RunStepped}
use Rattle.machine.proofs.Keeps.{step_ready, step_busy}
use Rattle.hear.specs.Hear.{body_length}
use Rattle.hear.specs.declared.Outcome.{Outcome}
use Rattle.sign.specs.Join.{stays_of}
use Rattle.sign.specs.Reset.{cleared_of}
use Rattle.sign.specs.Sound.{sound_of}
use Rattle.sign.specs.Step.{stepped_of}
use Rattle.sign.specs.Tell.{says_of, running_body, told_rows}
use Rattle.sign.specs.declared.Sign.{Sign}
use Rattle.sign.specs.declared.Received.{Received}
use Rattle.sign.specs.declared.Stepped.{Stepped}
use Rattle.sign.specs.declared.Cleared.{Cleared}
use Rattle.sign.proofs.Sounds.{sound_parts}
use Rattle.sign.proofs.Stepping.{sound_steps, same_run}
use Rattle.repeater.specs.Repeat.{repeat_of}
use Rattle.service.specs.Good.{Good}
use Rattle.service.proofs.Copies.{copy_repeats, busy_waits}
use Rattle.service.proofs.Joins.{unread, queried, cleared, begins, other_total, goes_in, again, differs}
use Rattle.promises.specs.Unit.{left_by, ours, heard_in, stepped_in, cleared_in, value_at}
use Rattle.promises.specs.Wire.{Lays}
use Rattle.promises.specs.Record.{Heeds, Answers, Joins, Steps, Clears, Obeys, stays}

-- a record of ours that stays, told an outcome that releases no body
still : (s : Sign) (o : Result Outcome Refusal) (x : Received) → x ≡ stays_of s o → body_length o ≡ 0 → heard_in x ≡ stays s (heard_in (stays_of s o)).told
unfolding stays_of
still s o x e none = ap heard_in e ∙ ap (λ (n : ℕ). record { told = (heard_in (stays_of s o)).told; next = s; body = take n (replicate 84 0) }) none

heeds : (x y : Received) → x ≡ y → Heeds ours (heard_in x) y
heeds x y e =
    record {
      told = ap (λ (z : Received). (heard_in z).told) e;
      next = ap (λ (z : Received). z.sign) e;
      body = ap (λ (z : Received). (heard_in z).body) e;
    }

pub ours_answers : (s : Sign) → Good s → Answers ours s
unfolding stays_of
ours_answers s good =
    record {
      unread = λ mid b e q. still s _ _ (unread s good mid b e q) refl;
      queried = λ mid b e. still s _ _ (queried s good mid b e) refl;
      cleared = λ mid b e. heeds _ _ (cleared s good mid b e);
    }

pub ours_joins : (s : Sign) → Good s → (mid : ℕ) (b : List ℕ) (id total position len : ℕ) → read_of mid b ≡ Ok (Normal id total position len)
    → Joins ours s mid b id total position (take len (drop 5 b))
unfolding stays_of
ours_joins s good mid b id total position len e =
    record {
      repeats = λ same. still s _ _ (copy_repeats s good mid b id total position len e same) refl;
      waits = λ other busy. still s _ _ (busy_waits s good mid b id total position len e busy other) refl;
      begins = λ other ready new. heeds _ _ (begins s good mid b id total position len e ready other new);
      other_total = λ other ready old apart. still s _ _ (other_total s good mid b id total position len e ready other old apart) refl;
      goes_in = λ other ready old one free. heeds _ _ (goes_in s good mid b id total position len e ready other old one free);
      again = λ other ready old one held same. still s _ _ (again s good mid b id total position len e ready other old one held same) refl;
      differs = λ other ready old one held apart. still s _ _ (differs s good mid b id total position len e ready other old one held apart) refl;
    }

pub ours_steps : (s : Sign) → Good s → Steps ours s
ours_steps s good =
    let e = sound_steps s good.sound in
    record {
      told = ap (λ (x : Stepped). (stepped_in x).told) e;
      next = ap (λ (x : Stepped). x.sign) e;
      rests = λ ready.
          ap stepped_in (e ∙ ap (stepped_of s) (step_ready s.room s.run (sound_parts s good.sound).run ready))
          ∙ ap (λ (t : Sign). record { told = (stepped_in (record { sign = t; answer = Ok None })).told; next = t }) (same_run s);
    }

pub ours_clears : (s : Sign) → Good s → Clears ours s
unfolding cleared_of
ours_clears s good =
    let e = when_true (sound_of s) _ _ good.sound in
    record { told = ap (λ (x : Cleared). (cleared_in x).told) e; next = ap (λ (x : Cleared). x.sign) e }

-- a sound record tells these bytes, or what the other rows say
tells : (s : Sign) → Good s → (rows : List Row) (bytes out : List ℕ) → Lays rows bytes out (left_by (told_rows s rows) bytes out)
tells s good rows bytes out =
    let rest = first_of rows in
    let e : first_of (told_rows s rows) ≡ rest = ap (λ (t : Bool). when (not t) 16 rest) good.sound in
    record { told = ap (λ (k : ℕ). written_of k bytes) e; buffer = ap (λ (k : ℕ). buffer_of k bytes out) e }

-- the repeater
ours_stretch : (body : List ℕ) (place len : ℕ) (standing : List ℕ) → (place ≡ 0 → ⊥) → place + len ≤ length body
    → repeat_of body place len standing ≡ take len (drop place body)
unfolding repeat_of
ours_stretch body place len standing some fits = search (tests, some, fits)

ours_standing : (body : List ℕ) (len : ℕ) (standing : List ℕ) → repeat_of body 0 len standing ≡ standing
unfolding repeat_of
ours_standing body len standing = refl

ours_outside : (body : List ℕ) (place len : ℕ) (standing : List ℕ) → length body < place + len → repeat_of body place len standing ≡ standing
unfolding repeat_of
ours_outside body place len standing far = go (eqb place 0)
  where
    go : (t : Bool) → when (not t and leb (place + len) (length body)) (take len (drop place body)) standing ≡ standing
    go true = refl
    go false = search (tests, far)

-- the text of a performed command lies within the body that it was read from
said_within : (b : List ℕ) (p : ℕ) (σ : Settings) (x : Tok) → get b p ≡ x
    → value_at 2 (answer_told (say_of (said_at x σ))) + value_at 3 (answer_told (say_of (said_at x σ))) ≤ length b
unfolding performed_of
said_within b p σ (right (act a)) e = (get_act b p a e).within
said_within b p σ (right (rep n z)) e = omega arith
said_within b p σ (right close) e = omega arith
said_within b p σ (right forever) e = omega arith
said_within b p σ (right repeats) e = omega arith
said_within b p σ (bad w) e = omega arith

ours_within : (s : Sign) → Good s → value_at 2 (ours.step s).told + value_at 3 (ours.step s).told ≤ length (running_body s)
ours_within s good = subst (λ (t : Told). value_at 2 t + value_at 3 t ≤ length (running_body s)) (sym (ours_steps s good).told) (go (eqb s.run.len 0) refl)
  where
    run : run_sound s.room s.run ≡ true
    run = (sound_parts s good.sound).run

    within : RunStepped → Type 0
    within x = value_at 2 (answer_told x.answer) + value_at 3 (answer_told x.answer) ≤ length (running_body s)

    go : (t : Bool) → eqb s.run.len 0 ≡ t → within (run_step s.room s.run)
    go true e = subst within (sym (step_ready s.room s.run run (eqb-true s.run.len 0 e))) (omega arith)
    go false e =
        subst within (sym (step_busy s.room s.run run (eqb-false s.run.len 0 e)))
        (said_within (running_body s) s.run.place s.run.settings (get (running_body s) s.run.place) refl)

pub ours_obeys : Obeys ours
ours_obeys =
    record {
      powers = refl;
      answers = ours_answers;
      joins = ours_joins;
      steps = ours_steps;
      clears = ours_clears;
      replies = λ s good mid sink out. tells s good (mid_row mid ∷ short_by (says_of s mid sink) out ∷ []) (says_of s mid sink) out;
      copies = λ s good out. tells s good (short_by (running_body s) out ∷ []) (running_body s) out;
      stretch = ours_stretch;
      standing = ours_standing;
      outside = ours_outside;
      within = ours_within;
    }
