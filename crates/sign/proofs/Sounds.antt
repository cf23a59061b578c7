-- The parts of a sound record, and a sound record made of them.
use mathlib.Core.Bool.{Bool, true, false}
use mathlib.Core.Path.{◌≡◌, refl, sym, ◌∙◌}
use Prim.Native.Nat.{◌≤◌}
use lib.Dec.{eqb}
use lib.ListN.{length}
use borrow.Author.Tests.{eq-eqb, ne_eqb}
use Rattle.basis.specs.Choice.{◌and◌}
use Rattle.basis.proofs.Choices.{and_parts, and_true, when_true, when_false}
use Rattle.completed.specs.Completed.{sound_of as completed_sound}
use Rattle.collect.specs.Sound.{nothing_of, sound_of as collection_sound}
use Rattle.machine.specs.Sound.{sound_of as run_sound}
use Rattle.machine.proofs.Sounds.{sound_parts as run_parts}
use Rattle.sign.specs.Sound.{collected_of, collects_of, framed_of, sound_of}
use Rattle.sign.specs.declared.Sign.{Sign}

pub record Parts (s : Sign) : Type 0 where
  pub completed : completed_sound s.completed ≡ true
  pub run : run_sound s.room s.run ≡ true
  pub collects : collects_of s ≡ true

pub sound_parts : (s : Sign) → sound_of s ≡ true → Parts s
unfolding sound_of
sound_parts s e =
    let a = and_parts (completed_sound s.completed) (run_sound s.room s.run and collects_of s) e in
    let b = and_parts (run_sound s.room s.run) (collects_of s) a.1 in
    record { completed = a.0; run = b.0; collects = b.1 }

pub parts_sound : (s : Sign) → Parts s → sound_of s ≡ true
unfolding sound_of
parts_sound s p = and_true _ _ p.completed (and_true _ _ p.run p.collects)

-- Ready: what is collected is sound; Busy: nothing is collected
pub ready_collects : (s : Sign) → s.run.len ≡ 0 → collects_of s ≡ collection_sound s.completed (collected_of s)
ready_collects s z = when_true (eqb s.run.len 0) (collection_sound s.completed (collected_of s)) (nothing_of s.slots) (eq-eqb s.run.len 0 z)

pub busy_collects : (s : Sign) → (s.run.len ≡ 0 → ⊥) → collects_of s ≡ nothing_of s.slots
busy_collects s busy = when_false (eqb s.run.len 0) (collection_sound s.completed (collected_of s)) (nothing_of s.slots) (ne_eqb s.run.len 0 busy)

pub ready_collected : (s : Sign) → sound_of s ≡ true → s.run.len ≡ 0 → collection_sound s.completed (collected_of s) ≡ true
ready_collected s e z = sym (ready_collects s z) ∙ (sound_parts s e).collects

pub busy_nothing : (s : Sign) → sound_of s ≡ true → (s.run.len ≡ 0 → ⊥) → nothing_of s.slots ≡ true
busy_nothing s e busy = sym (busy_collects s busy) ∙ (sound_parts s e).collects

-- a record is sound by its frame and its run
framed_run : (a b c : Bool) → a and b and c ≡ (a and c) and b
framed_run false b c = refl
framed_run true true true = refl
framed_run true true false = refl
framed_run true false true = refl
framed_run true false false = refl

pub sound_framed : (s : Sign) → sound_of s ≡ framed_of s and run_sound s.room s.run
unfolding sound_of
sound_framed s = framed_run (completed_sound s.completed) (run_sound s.room s.run) (collects_of s)

-- the running body lies within the room
pub body_fits : (s : Sign) → sound_of s ≡ true → s.run.len ≤ length s.room
body_fits s e = (run_parts s.room s.run (sound_parts s e).run).fits
