-- Ours knows the last four numbers, whatever comes between the lines but a reset and another line.
use Prim.Native.Nat.{ℕ, zero, suc, ◌≤◌}
use mathlib.Core.Bool.{Bool, true, false, not}
use mathlib.Core.List.{List, [], ◌∷◌, ◌++◌}
use mathlib.Core.Path.{◌≡◌, refl, sym, ap, ◌∙◌}
use native.Mathlib.Omega.{arith}
use lib.Dec.{eqb, leb}
use lib.ListN.{take, replicate}
use lib.Seq.{take-take, take_all}
use borrow.Author.Tests.{eqb-true, eq-eqb, not-true}
use Rattle.basis.specs.Choice.{◌or◌}
use Rattle.basis.proofs.Choices.{and_parts}
use Rattle.completed.specs.Completed.{ids_of, is_among, differ_of, has_of}
use Rattle.completed.specs.declared.Completed.{Completed}
use Rattle.completed.proofs.Laws.{ids_most, ids_added, sound_parts as completed_parts}
use Rattle.collect.specs.Slots.{collection_of, slots_in, begun_of, none_of}
use Rattle.collect.specs.declared.Slots.{Slots}
use Rattle.hear.specs.Join.{begins_of}
use Rattle.sign.specs.Step.{step_of}
use Rattle.sign.specs.Receive.{receive_of}
use Rattle.sign.specs.declared.Sign.{Sign}
use Rattle.sign.proofs.Sounds.{sound_parts}
use Rattle.service.specs.Driver.{Event, step, bytes, after_steps}
use Rattle.service.specs.Good.{Good}
use Rattle.service.proofs.Driver.{receive_completed}
use Rattle.service.proofs.Keeps.{receive_good, step_good}
use Rattle.service.proofs.Punctual.{steps_completed, steps_slots}
use Rattle.promises.specs.Unit.{ours}
use Rattle.promises.specs.Line.{after}
use Rattle.promises.specs.Late.{Sent, ids_in, delivered, after_all, Between, Came, LateCopies}
use Rattle.promises.proofs.Delivery.{written, behind_good, behind_completed, gets}
use Rattle.promises.proofs.Record.{ours_obeys}

-- what comes between lines leaves a sound record sound, with the completed IDs that it has
between_keeps : (mid : ℕ) (es : List Event) (s : Sign) → Good s → Between ours mid es s
    → Good (after ours mid es s) × ((after ours mid es s).completed ≡ s.completed)
between_keeps mid [] s g w = (g, refl)
between_keeps mid (step ∷ es) s g w =
    let h = between_keeps mid es (step_of s).sign (step_good s g) w in
    (h.0, h.1 ∙ steps_completed 1 s g)
between_keeps mid (bytes b ∷ es) s g w =
    let h = between_keeps mid es (receive_of s mid b).sign (receive_good s mid b g) w.1 in
    (h.0, h.1 ∙ receive_completed s mid b w.0)

-- one more in front of four at most
front : (id : ℕ) (xs : List ℕ) → take 4 (id ∷ take 4 xs) ≡ take 4 (id ∷ xs)
front id xs = let three : 3 ≤ 4 = omega arith in ap (λ (ys : List ℕ). id ∷ ys) (take-take 3 4 xs three)

few : (d : Completed) → d.count ≤ 4 → take 4 (ids_of d) ≡ ids_of d
few d most = take_all 4 (ids_of d) (omega (arith, ids_most d))

-- lines leave a sound record sound, and it knows their numbers
knows : (mid : ℕ) (xs : List Sent) (s : Sign) → Good s → Came ours mid xs s
    → Good (after_all ours mid xs s) × (ids_of (after_all ours mid xs s).completed ≡ take 4 (ids_in xs ++ ids_of s.completed))
knows mid [] s g w = (g, sym (few s.completed (completed_parts s.completed (sound_parts s g.sound).completed).most))
knows mid (x ∷ xs) s g w =
    let h = knows mid xs s g w.1.1.1 in
    let t = after_all ours mid xs s in
    let sent = written mid x.id x.body x.out w.0 in
    let good = behind_good t h.0 mid x.id x.body x.out sent w.1.0 in
    let k = between_keeps mid x.events (delivered ours mid x t) good w.1.1.0 in
    let most = (completed_parts t.completed (sound_parts t h.0.sound).completed).most in (
      k.0,
      ap ids_of (k.1 ∙ behind_completed t h.0 mid x.id x.body x.out sent w.1.0)
          ∙ ids_added t.completed x.id most
          ∙ ap (λ (ys : List ℕ). take 4 (x.id ∷ ys)) h.1
          ∙ front x.id (ids_in xs ++ ids_of s.completed),
    )

-- steps alone after a line leave nothing collected
steps_after : (mid : ℕ) (k : ℕ) (s : Sign) → after ours mid (replicate k step) s ≡ after_steps k s
steps_after mid zero s = refl
steps_after mid (suc k) s = steps_after mid k (step_of s).sign

collects_none : (mid : ℕ) (x : Sent) (xs : List Sent) (k : ℕ) (s : Sign) → Good s → Came ours mid (x ∷ xs) s → x.events ≡ replicate k step
    → (after_all ours mid (x ∷ xs) s).slots ≡ slots_in none_of
collects_none mid x xs k s g w steps =
    let h = knows mid xs s g w.1.1.1 in
    let t = after_all ours mid xs s in
    let sent = written mid x.id x.body x.out w.0 in
    let good = behind_good t h.0 mid x.id x.body x.out sent w.1.0 in
    ap (λ (es : List Event). (after ours mid es (delivered ours mid x t)).slots) steps
    ∙ ap (λ (y : Sign). y.slots) (steps_after mid k (delivered ours mid x t))
    ∙ steps_slots k (delivered ours mid x t) good
    ∙ (gets t h.0 mid x.id x.body x.out sent w.1.0).none

-- the last of different numbers isn't among the others
apart : (s : List ℕ) (a : ℕ) → differ_of (s ++ (a ∷ [])) ≡ true → is_among a s ≡ false
apart [] a e = refl
apart (x ∷ xs) a e =
    let p = and_parts (leb x 0x3F) _ e in
    let q = and_parts (not (is_among x (xs ++ (a ∷ [])))) _ p.1 in
    go (eqb a x) refl (apart xs a q.1) (not-true _ q.0)
  where
    end : (ys : List ℕ) → is_among a (ys ++ (a ∷ [])) ≡ true
    end [] = ap (λ (t : Bool). t or false) (eq-eqb a a refl)
    end (y ∷ ys) = one (eqb a y) (end ys)
      where
        one : (t : Bool) → is_among a (ys ++ (a ∷ [])) ≡ true → t or is_among a (ys ++ (a ∷ [])) ≡ true
        one true h = refl
        one false h = h

    go : (t : Bool) → eqb a x ≡ t → is_among a xs ≡ false → is_among x (xs ++ (a ∷ [])) ≡ false → t or is_among a xs ≡ false
    go false f h k = h
    go true f h k =
        let n : true ≡ false = sym (end xs) ∙ ap (λ (y : ℕ). is_among y (xs ++ (a ∷ []))) (eqb-true a x f) ∙ k in
        let z : ◌≡◌ {A = ℕ} 0 1 = cc in
        absurd (omega arith)

pub ours_remembers : LateCopies ours
unfolding has_of begun_of
ours_remembers =
    record {
      known = λ s g mid xs w. (knows mid xs s g w).1;
      collects_nothing = λ s g mid x xs k w steps id.
          ap (λ (y : Slots). begins_of (collection_of y (after_all ours mid (x ∷ xs) s).room) id) (collects_none mid x xs k s g w steps);
      five = λ s g mid a b c d e w differ.
          let xs = e ∷ d ∷ c ∷ b ∷ a ∷ [] in
          let h = knows mid xs s g w in
          let t = after_all ours mid xs s in
          let four : ids_of t.completed ≡ ids_in (e ∷ d ∷ c ∷ b ∷ []) = h.1 in
          let new : has_of t.completed a.id ≡ false = ap (is_among a.id) four ∙ apart (ids_in (e ∷ d ∷ c ∷ b ∷ [])) a.id differ in
          let joins = ours_obeys.joins t h.0 in
          record {
            repeats = λ p id total position len read among. (joins mid p id total position len read).repeats (ap (is_among id) four ∙ among);
            waits = λ p total position len read busy. (joins mid p a.id total position len read).waits new busy;
            begins = λ p total position len read ready begins. (joins mid p a.id total position len read).begins new ready begins;
          };
    }
