-- The calls' outcomes from those of the calls below: a sign in an image, and what is told of it.
use Prim.Native.Nat.{ℕ, ◌≤◌}
use mathlib.Core.Bool.{Bool, true, false, not}
use mathlib.Core.List.{List, [], ◌∷◌}
use mathlib.Core.Path.{◌≡◌, refl, sym, ap, ◌∙◌, subst}
use native.Mathlib.Omega.{arith}
use lib.Dec.{eqb, ltb}
use lib.ListN.{length}
use borrow.Author.Tests.{eq-eqb, ne_eqb, eqb-true, eqb-false, le-ltb}
use Rattle.basis.specs.Bytes.{laid}
use Rattle.basis.specs.Choice.{when}
use Rattle.basis.specs.Rows.{Row}
use Rattle.basis.specs.Told.{Told}
use Rattle.basis.proofs.Choices.{when_true, when_false}
use Rattle.packet.specs.Mid.{is_forbidden, mid_row}
use Rattle.packet.specs.Write.{Writes}
use Rattle.packet.proofs.Numbers.{rows_told}
use Rattle.std.specs.Prelude.{Result, Ok, Err, Option, Some, None}
use Rattle.perform.specs.declared.price.Performed.{Performed}
use Rattle.refusal.specs.declared.Refusal.{Refusal}
use Rattle.refusal.specs.declared.Refusal.TheVariants.{Unsound}
use Rattle.refusal.specs.Refusal.{AllNamed}
use Rattle.refusal.proofs.Names.{some_one}
use Rattle.refusal.specs.declared.Refusal.{Refusal as No}
use Rattle.machine.specs.Step.{told_of as answer_told}
use Rattle.hear.specs.Hear.{told_of as outcome_told}
use Rattle.hear.specs.declared.Outcome.{Outcome}
use Rattle.hear.specs.declared.Outcome.TheVariants.{Reset}
use Rattle.sign.specs.Sound.{sound_of}
use Rattle.sign.specs.Join.{stays_of}
use Rattle.sign.specs.Receive.{receive_of}
use Rattle.sign.specs.Reset.{reset_of, cleared_of}
use Rattle.sign.specs.Step.{step_of}
use Rattle.sign.specs.declared.Sign.{Sign}
use Rattle.sign.specs.declared.Cleared.{Cleared}
use Rattle.sign.specs.declared.Received.{Received}
use Rattle.sign.specs.declared.Stepped.{Stepped}
use Rattle.sign.proofs.Joining.{unsound_receives, forbidden_receives}
use Rattle.sign.proofs.Stepping.{unsound_steps}
use Rattle.image.specs.Layout.{image_size, record_of}
use Rattle.words.specs.Words.{words_of, length_told, wrote_of}
use Rattle.words.specs.Told.{answer_row, first_or, told_in}
use Rattle.words.specs.Says.{received_bytes}
use Rattle.cabi.specs.Calls.{Tells, loaded_of, guarded, kept_of}

-- a writer's outcomes, as its result
pub tells : {rows : List Row} {bytes out after : List ℕ} {w : Result ℕ No} {r : ℕ} → AllNamed rows → Writes rows bytes out w after → r ≡ wrote_of w → Tells rows bytes out r after
tells {rows} {bytes} named h e = record { told = e ∙ ap wrote_of h.answered ∙ ap length_told (rows_told rows bytes named); left = h.left }

-- what is told of x is told of y, where x is y
abbrev pub Says : {X : Type 0} → (told : X → Told) → (result : Told → ℕ) → (size : ℕ) → (answer : List ℕ) → (r : ℕ) → (after : List ℕ) → X → Type 0
Says told result size answer r after x =
    (r ≡ first_or (answer_row size answer ∷ []) (result (told x))) × (after ≡ told_in size (words_of (told x).values) answer)

pub told_of_lem : {X : Type 0} (told : X → Told) (result : Told → ℕ) (size : ℕ) (answer : List ℕ) {r : ℕ} {after : List ℕ} (x y : X) → x ≡ y
    → Says told result size answer r after x
    → Says told result size answer r after y
told_of_lem told result size answer {r} {after} x y = subst (Says told result size answer r after)

-- what a call leaves of a lent list, by its number
pub kept_no : (n : ℕ) (as_was next : List ℕ) → (n ≡ 0 → ⊥) → as_was ≡ kept_of n as_was next
kept_no n as_was next h = sym (when_false (eqb n 0) next as_was (ne_eqb n 0 h))

pub kept_yes : (n : ℕ) (as_was next : List ℕ) → n ≡ 0 → next ≡ kept_of n as_was next
kept_yes n as_was next h = sym (when_true (eqb n 0) next as_was (eq-eqb n 0 h))

-- the guard lets pass what the call itself refuses by 16 where the record is unsound
pub guard_is : (image : List ℕ) (rows : List Row) (n : ℕ) → length image ≡ image_size → (sound_of (record_of image) ≡ false → n ≡ 16)
    → (sound_of (record_of image) ≡ true → first_or rows n ≡ n)
    → n ≡ first_or (guarded image rows) n
guard_is image rows n size ill own =
    sym (when_false _ 251 (when (not (sound_of (record_of image))) 16 (first_or rows n)) (ap not (eq-eqb (length image) image_size size)) ∙ go (sound_of (record_of image)) refl)
  where
    go : (t : Bool) → sound_of (record_of image) ≡ t → when (not t) 16 (first_or rows n) ≡ n
    go true e = own e
    go false e = sym (ill e)

-- the record of an image from which one was loaded, and that it has its size
pub loaded : (image : List ℕ) {s : Sign} → Some s ≡ loaded_of image → (length image ≡ image_size) × (s ≡ record_of image)
loaded image {s} = go (eqb (length image) image_size) refl
  where
    go : (t : Bool) → eqb (length image) image_size ≡ t → Some s ≡ when (not t) None (Some (record_of image)) → (length image ≡ image_size) × (s ≡ record_of image)
    go true e h = (eqb-true (length image) image_size e, some_one h)
    go false e h = absurd cc

-- an answer that is long enough, or too short
pub answer_is : (size : ℕ) (answer : List ℕ) (n : ℕ) → size ≤ length answer → first_or (answer_row size answer ∷ []) n ≡ n
answer_is size answer n room = when_false (ltb (length answer) size) 252 n (le-ltb (length answer) size room)

-- a call with a MID and an answer that is long enough: where its own number for a forbidden MID is 19, the guard changes nothing
pub mid_is : (mid size : ℕ) (answer : List ℕ) (n : ℕ) → size ≤ length answer → (is_forbidden mid ≡ true → n ≡ 19)
    → first_or (mid_row mid ∷ answer_row size answer ∷ []) n ≡ n
mid_is mid size answer n room bad = go (is_forbidden mid) refl
  where
    go : (t : Bool) → is_forbidden mid ≡ t → when t 19 (first_or (answer_row size answer ∷ []) n) ≡ n
    go true e = sym (bad e)
    go false e = answer_is size answer n room

-- and one whose answer is long enough: what is read is told
pub reader_told : {X : Type 0} (told : X → Told) (mid size : ℕ) (answer : List ℕ) {r : ℕ} {after : List ℕ} (x y : X) → x ≡ y → size ≤ length answer
    → (is_forbidden mid ≡ true → (told y).number ≡ 19)
    → Says told (λ (t : Told). t.number) size answer r after x
    → (r ≡ first_or (mid_row mid ∷ answer_row size answer ∷ []) (told y).number) × (after ≡ told_in size (words_of (told y).values) answer)
reader_told told mid size answer x y e room bad h =
    let h' = told_of_lem told (λ (t : Told). t.number) size answer x y e h in
    (h'.0 ∙ answer_is size answer (told y).number room ∙ sym (mid_is mid size answer (told y).number room bad), h'.1)

-- the outcome of a call on a sign in an image that has these rows after the guard, tells these bytes and leaves this image, where it is
-- not refused
module _ (rows : List Row) (image answer : List ℕ) (n : ℕ) (bytes next : List ℕ) where
  abbrev pub Went : (r : ℕ) → (image' answer' : List ℕ) → Type 0
  Went r image' answer' =
      let all = first_or (guarded image rows) n in
      (r ≡ all) × ((image' ≡ kept_of all image next) × (answer' ≡ kept_of all answer (laid bytes answer)))

  -- refused by the guard: what is lent stays
  stays_went : (r : ℕ) → r ≡ first_or (guarded image rows) n → (r ≡ 0 → ⊥) → Went r image answer
  stays_went r e h = (e, (kept_no _ image next (λ z. h (e ∙ z)), kept_no _ answer (laid bytes answer) (λ z. h (e ∙ z))))

  -- an image of another size
  pub unsized : (length image ≡ image_size → ⊥) → Went 251 image answer
  unsized h =
      stays_went 251
      (sym (when_true _ 251 (when (not (sound_of (record_of image))) 16 (first_or rows n)) (ap not (ne_eqb (length image) image_size h))))
      (λ z. omega arith)

  -- an answer that is too short
  pub too_short : (s : Sign) (r then : ℕ) → length image ≡ image_size → first_or rows n ≡ then → (then ≡ 0 → ⊥) → s ≡ record_of image
      → r ≡ when (sound_of s) then 16
      → Went r image answer
  too_short s r then fits why other es er =
      let told : r ≡ when (sound_of (record_of image)) then 16 = er ∙ ap (λ (x : Sign). when (sound_of x) then 16) es in
      stays_went r (told ∙ sym whole) (λ z. never (sound_of (record_of image)) (sym told ∙ z))
    where
      turned : (t : Bool) → when (not t) 16 then ≡ when t then 16
      turned true = refl
      turned false = refl

      whole : first_or (guarded image rows) n ≡ when (sound_of (record_of image)) then 16
      whole =
          when_false _ 251 (when (not (sound_of (record_of image))) 16 (first_or rows n)) (ap not (eq-eqb (length image) image_size fits))
          ∙ ap (λ (k : ℕ). when (not (sound_of (record_of image))) 16 k) why
          ∙ turned (sound_of (record_of image))

      never : (t : Bool) → when t then 16 ≡ 0 → ⊥
      never true z = other z
      never false z = omega arith

  module _ (size : ℕ) (fits : length image ≡ image_size) (room : size ≤ length answer) (ill : sound_of (record_of image) ≡ false → n ≡ 16)
      (past : sound_of (record_of image) ≡ true → first_or rows n ≡ n) {r : ℕ} {answer' : List ℕ}
      (told : r ≡ first_or (answer_row size answer ∷ []) n)
      (after : answer' ≡ told_in size bytes answer) where
    long : ltb (length answer) size ≡ false
    long = le-ltb (length answer) size room

    own : first_or (answer_row size answer ∷ []) n ≡ n
    own = answer_is size answer n room

    all : n ≡ first_or (guarded image rows) n
    all = guard_is image rows n fits ill past

    written : answer' ≡ laid bytes answer
    written = after ∙ when_false (ltb (length answer) size) answer (laid bytes answer) long

    -- a call leaves the next image and tells where it isn't refused, and neither where it is
    pub went : (image' : List ℕ) → image' ≡ kept_of n image next → ((n ≡ 0 → ⊥) → bytes ≡ []) → Went r image' answer'
    unfolding laid
    went image' e quiet =
        (told ∙ own ∙ all, (e ∙ ap (λ (k : ℕ). kept_of k image next) all, written ∙ kept (eqb n 0) refl ∙ ap (λ (k : ℕ). kept_of k answer (laid bytes answer)) all))
      where
        kept : (t : Bool) → eqb n 0 ≡ t → laid bytes answer ≡ kept_of n answer (laid bytes answer)
        kept true z = kept_yes n answer (laid bytes answer) (eqb-true n 0 z)
        kept false z = ap (λ (x : List ℕ). laid x answer) (quiet (eqb-false n 0 z)) ∙ kept_no n answer (laid bytes answer) (eqb-false n 0 z)

-- a call without an answer, in an image of the right size: the number and the image are those of the call itself
module _ (image : List ℕ) (n : ℕ) (next : List ℕ) (fits : length image ≡ image_size) (ill : sound_of (record_of image) ≡ false → n ≡ 16) where
  pub alone_went : (image' : List ℕ) → image' ≡ kept_of n image next
      → (n ≡ first_or (guarded image []) n) × (image' ≡ kept_of (first_or (guarded image []) n) image next)
  alone_went image' e = let all = guard_is image [] n fits ill (λ e. refl) in (all, e ∙ ap (λ (k : ℕ). kept_of k image next) all)

-- an unsound record is 16 to each call
pub ill_receives : (image : List ℕ) (mid : ℕ) (b : List ℕ) → sound_of (record_of image) ≡ false → (outcome_told (receive_of (record_of image) mid b).outcome).number ≡ 16
unfolding stays_of
ill_receives image mid b e = ap (λ (x : Received). (outcome_told x.outcome).number) (unsound_receives (record_of image) mid b e)

-- and a forbidden MID 19 to the one that takes a MID
pub forbidden_19 : (image : List ℕ) (mid : ℕ) (b : List ℕ) → sound_of (record_of image) ≡ true → is_forbidden mid ≡ true
    → (outcome_told (receive_of (record_of image) mid b).outcome).number ≡ 19
unfolding stays_of
forbidden_19 image mid b sound e = ap (λ (x : Received). (outcome_told x.outcome).number) (forbidden_receives (record_of image) mid b sound e)

pub ill_steps : (image : List ℕ) → sound_of (record_of image) ≡ false → (answer_told (step_of (record_of image)).answer).number ≡ 16
ill_steps image e = ap (λ (x : Stepped). (answer_told x.answer).number) (unsound_steps (record_of image) e)

pub ill_resets : (image : List ℕ) → sound_of (record_of image) ≡ false → (outcome_told (cleared_of (record_of image)).outcome).number ≡ 16
unfolding cleared_of
ill_resets image e = ap (λ (t : Bool). (outcome_told (choice t).outcome).number) e
  where
    choice : Bool → Cleared
    choice t = when t (record { sign = reset_of (record_of image); outcome = Ok Reset }) (record { sign = record_of image; outcome = Err Unsound })

-- a refusal tells nothing
pub quiet_receive : (o : Result Outcome Refusal) (body : List ℕ) → ((outcome_told o).number ≡ 0 → ⊥) → received_bytes o body ≡ []
quiet_receive (Ok x) body h = absurd (h refl)
quiet_receive (Err e) body h = refl

pub quiet_step : (x : Result (Option Performed) Refusal) → ((answer_told x).number ≡ 0 → ⊥) → words_of (answer_told x).values ≡ []
unfolding words_of
quiet_step (Ok x) h = absurd (h refl)
quiet_step (Err e) h = refl
