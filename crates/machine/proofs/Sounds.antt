-- Soundness, part by part: which part decides where those before it hold.
use Prim.Native.Nat.{ℕ, ◌≤◌}
use mathlib.Core.List.{List}
use mathlib.Core.Bool.{Bool, true, false}
use mathlib.Core.Path.{◌≡◌, refl, sym, ap, ◌∙◌}
use native.Mathlib.Omega.{arith}
use lib.ListN.{length, drop}
use lib.Seq.{length-take-le}
use lib.Dec.{eqb, leb}
use borrow.Author.Tests.{leb-true, eqb-true, eqb-false}
use Rattle.basis.specs.Choice.{when, ◌and◌}
use Rattle.basis.proofs.Choices.{and_parts}
use Rattle.basis.proofs.Tests.{tests}
use Rattle.program.specs.Command.{read_of}
use Rattle.loops.specs.Token.{good, bad, tok_of}
use Rattle.refusal.specs.declared.Fault.{Fault}
use Rattle.std.proofs.Common.{Err, Option, None}
use Rattle.judge.specs.declared.Standing.{Standing}
use Rattle.judge.proofs.Turns.{found_none}
use Rattle.grammar.proofs.Standings.{At as StandsAt, stands_at}
use Rattle.judge.specs.Standing.{stand_of, found_of}
use Rattle.perform.specs.Settings.{sound_of as settings_sound}
use Rattle.room.specs.Room.{zeros_of}
use Rattle.grammar.specs.Grammar.{accepted_as}
use Rattle.course.proofs.Programs.{accepting}
use Rattle.machine.specs.Sound.{body_of, rests_of, held_of, filled_of, runs_of, sound_of}
use Rattle.machine.specs.declared.Loop.{Loop}
use Rattle.machine.specs.declared.Run.{Run}
use Rattle.machine.proofs.Reached.{here, accepted_yes}

-- unsound settings decide
pub unset : (room : List ℕ) (r : Run) → settings_sound r.settings ≡ false → sound_of room r ≡ false
unfolding sound_of
unset room r e =
    ap (λ (t : Bool). t and when (eqb r.len 0) (rests_of r.place r.inner) (runs_of room r)) e

-- where the settings are sound, the rest decides
module _ (room : List ℕ) (r : Run) (set : settings_sound r.settings ≡ true) where
  pub resting : r.len ≡ 0 → sound_of room r ≡ rests_of r.place r.inner
  unfolding sound_of
  resting h = search (tests, set)

  going : (r.len ≡ 0 → ⊥) → sound_of room r ≡ runs_of room r
  unfolding sound_of
  going h = search (tests, set)

  pub unfilled : (r.len ≡ 0 → ⊥) → filled_of room r.len ≡ false → sound_of room r ≡ false
  unfilled h e = going h ∙ ap (λ (t : Bool). t and held_of (stand_of (body_of room r) r.place) r.inner) e

  pub running : (r.len ≡ 0 → ⊥) → filled_of room r.len ≡ true → sound_of room r ≡ held_of (stand_of (body_of room r) r.place) r.inner
  running h e = going h ∙ ap (λ (t : Bool). t and held_of (stand_of (body_of room r) r.place) r.inner) e

-- a Ready run is sound beside one room as beside another
pub ready_anywhere : (room other : List ℕ) (r : Run) → r.len ≡ 0 → sound_of room r ≡ sound_of other r
ready_anywhere room other r none = go (settings_sound r.settings) refl
  where
    go : (t : Bool) → settings_sound r.settings ≡ t → sound_of room r ≡ sound_of other r
    go true e = resting room r e none ∙ sym (resting other r e none)
    go false e = unset room r e ∙ sym (unset other r e)

-- a room that holds a body holds it whole
pub filled_fits : (room : List ℕ) (len : ℕ) → filled_of room len ≡ true → len ≤ length room
filled_fits room len e = leb-true len (length room) (and_parts (leb len (length room)) _ e).0

-- where a place is held it stands somewhere
somewhere : (s : Option Standing) (l : Loop) → held_of s l ≡ true → s ≡ None → ⊥
somewhere s l h e = let w : false ≡ true = sym (ap (λ (x : Option Standing). held_of x l) e) ∙ h in let z : ◌≡◌ {A = ℕ} 0 1 = cc in omega arith

-- a place that is held is one at a command of an accepted body
module _ (b : List ℕ) (p : ℕ) (l : Loop) (held : held_of (stand_of b p) l ≡ true) where
  pub held_at : StandsAt b p (stand_of b p)
  held_at = stands_at b p (stand_of b p) refl (somewhere (stand_of b p) l held)

  -- so the body has 84 bytes at most
  pub held_most : length b ≤ 84
  held_most =
      let a = held_at in
      (accepting b (accepted_as a.endless) a.accepted (accepted_yes a.endless)).1.0

  -- and the command there is good
  held_good : (x : Fault) → read_of b p ≡ Err x → ⊥
  held_good x w =
      let h = here b p (stand_of b p) held_at in
      let k : bad x ≡ good h.part = sym (ap (tok_of b p) w) ∙ h.there in
      let z : ◌≡◌ {A = ℕ} 0 1 = cc in
      omega arith

-- a place where nothing is found is not held
pub missing_unheld : (b : List ℕ) (p : ℕ) (l : Loop) → found_of b p ≡ None → held_of (stand_of b p) l ≡ false
missing_unheld b p l e = ap (λ (s : Option Standing). held_of s l) (found_none b p e)

-- the parts of a sound run, of which a Ready one has no word about the room
pub record Parts (room : List ℕ) (r : Run) : Type 0 where
  pub set : settings_sound r.settings ≡ true
  pub fits : r.len ≤ length room
  pub most : r.len ≤ 84
  pub rests : r.len ≡ 0 → rests_of r.place r.inner ≡ true
  pub filled : (r.len ≡ 0 → ⊥) → filled_of room r.len ≡ true
  pub clean : (r.len ≡ 0 → ⊥) → zeros_of (drop r.len room) ≡ true
  pub held : (r.len ≡ 0 → ⊥) → held_of (stand_of (body_of room r) r.place) r.inner ≡ true

pub sound_parts : (room : List ℕ) (r : Run) → sound_of room r ≡ true → Parts room r
unfolding sound_of
sound_parts room r e =
    let set = (and_parts (settings_sound r.settings) _ e).0 in
    go set (eqb r.len 0) refl
  where
    go : settings_sound r.settings ≡ true → (t : Bool) → eqb r.len 0 ≡ t → Parts room r
    go set true q =
        let none = eqb-true r.len 0 q in
        record {
          set = set;
          fits = omega arith;
          most = omega arith;
          rests = λ h. sym (resting room r set h) ∙ e;
          filled = λ h. absurd (h none);
          clean = λ h. absurd (h none);
          held = λ h. absurd (h none);
        }
    go set false q =
        let busy = eqb-false r.len 0 q in
        let runs = and_parts (filled_of room r.len) _ (sym (going room r set busy) ∙ e) in
        let fits = filled_fits room r.len runs.0 in
        record {
          set = set;
          fits = fits;
          most = omega (arith, length-take-le r.len room fits, held_most (body_of room r) r.place r.inner runs.1);
          rests = λ h. absurd (busy h);
          filled = λ h. runs.0;
          clean = λ h. (and_parts (leb r.len (length room)) _ runs.0).1;
          held = λ h. runs.1;
        }

-- a Busy sound run stands at a command of its accepted body
pub busy_at : (room : List ℕ) (r : Run) → sound_of room r ≡ true → (r.len ≡ 0 → ⊥) → StandsAt (body_of room r) r.place (stand_of (body_of room r) r.place)
busy_at room r e busy = held_at (body_of room r) r.place r.inner ((sound_parts room r e).held busy)
