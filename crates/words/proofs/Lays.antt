-- Words written one after the other, read back, and told.
use Prim.Native.Nat.{ℕ, ◌+◌, ◌*◌, ◌-◌, ◌/◌, ◌%◌, ◌≤◌, ◌<◌}
use mathlib.Core.List.{List, [], ◌∷◌, ◌++◌}
use mathlib.Core.Path.{◌≡◌, refl, sym, ap, ◌∙◌}
use mathlib.Core.Bool.{Bool, true, false}
use native.Mathlib.Omega.{arith}
use native.Mathlib.Numerals.{add-one}
use lib.ListN.{length, take, drop, get_or, length-append}
use lib.Seq.{take_all, take-suc, length-take-le}
use lib.Dec.{ltb, eqb}
use mir.Val.{bool_byte}
use borrow.Author.Tests.{lt-ltb, le-ltb, eq-eqb, ne_eqb}
use borrow.Rule.Slice.PartMut.{put_mid}
use Rattle.basis.specs.Bytes.{laid}
use Rattle.basis.specs.Told.{Told, flag_of}
use Rattle.basis.proofs.Choices.{when_true, when_false}
use Rattle.basis.proofs.Laid.{laid_lent, laid_copied, length_laid, take_laid, laid_over}
use Rattle.std.specs.Prelude.{Result, Ok}
use Rattle.refusal.specs.declared.Refusal.{Refusal}
use Rattle.words.specs.Words.{word_of, words_of, result_of}
use Rattle.hear.specs.Hear.{values_of, body_length}
use Rattle.hear.specs.declared.Outcome.{Outcome}
use Rattle.hear.specs.declared.Outcome.TheVariants.{Query, Reset, Repeat, Stored, Released}
use Rattle.words.specs.Told.{answer_row, first_or, told_in}
use Rattle.words.specs.Says.{outcome_of, program_of, place_of, received_bytes}

-- a word is four bytes
pub words_length : (ws : List ℕ) → length (words_of ws) ≡ 4 * length ws
unfolding words_of
words_length [] = refl
words_length (x ∷ ws) = omega (arith, words_length ws)

-- a number below 2^32 reads back from its word
pub word_back : (x : ℕ) → x < 4294967296 → x % 256 + 256 * (x / 256 % 256) + 65536 * (x / 65536 % 256) + 16777216 * (x / 16777216 % 256) ≡ x
word_back x h =
    let second : x / 256 / 256 ≡ x / 65536 = omega arith in
    let third : x / 65536 / 256 ≡ x / 16777216 = omega arith in
    let last : x / 16777216 % 256 ≡ x / 16777216 = omega arith in
    let upper : 256 * (x / 16777216) + x / 65536 % 256 ≡ x / 65536 = omega arith in
    let middle : 256 * (x / 65536) + x / 256 % 256 ≡ x / 256 = omega arith in
    omega arith

-- a number for no below 256 and a value below 2^24 read back from their result
pub result_back : (n v : ℕ) → n < 256 → v < 16777216 → (result_of n v % 256 ≡ n) × (result_of n v / 256 ≡ v)
result_back n v hn hv = (omega arith, omega arith)

-- words in a row, cut anywhere
pub words_append : (us ws : List ℕ) → words_of (us ++ ws) ≡ words_of us ++ words_of ws
unfolding words_of
words_append [] ws = refl
words_append (x ∷ us) ws = ap (λ (r : List ℕ). word_of x ++ r) (words_append us ws)

-- one word more, laid into what is lent from behind those laid so far
pub next_word : (ws out f y : List ℕ) (i : ℕ) → i < length ws → 4 * length ws ≤ length out → f ≡ laid (words_of (take i ws)) out
    → y ≡ laid (word_of (get_or ws i 0)) (take (length f - 4 * i) (drop (4 * i) f))
    → (put_mid (4 * i) (length f - 4 * i) f y ≡ laid (words_of (take (i + 1) ws)) out)
    × (length (put_mid (4 * i) (length f - 4 * i) f y) ≡ length out)
unfolding words_of
next_word ws out f y i below room ef ey =
    let some : i ≤ length ws = omega arith in
    let lp : 4 * i ≡ length (words_of (take i ws)) = omega (arith, words_length (take i ws), length-take-le i ws some) in
    let fits : length (words_of (take i ws)) ≤ length out = omega arith in
    let more : words_of (take i ws) ++ word_of (get_or ws i 0) ≡ words_of (take (i + 1) ws) =
    sym (ap words_of (ap (λ (n : ℕ). take n ws) (add-one i) ∙ take-suc ws i 0 below) ∙ words_append (take i ws) (get_or ws i 0 ∷ [])) in
    let now : put_mid (4 * i) (length f - 4 * i) f y ≡ laid (words_of (take (i + 1) ws)) out =
    laid_lent (4 * i) (words_of (take i ws)) (word_of (get_or ws i 0)) out f y lp fits ef ey ∙ ap (λ (p : List ℕ). laid p out) more in
    let next : i + 1 ≤ length ws = omega arith in
    let most : length (words_of (take (i + 1) ws)) ≤ length out = omega (arith, words_length (take (i + 1) ws), length-take-le (i + 1) ws next) in
    (now, ap length now ∙ length_laid (words_of (take (i + 1) ws)) out most)

-- an answer with room is told
pub told_room : (size : ℕ) (bytes answer : List ℕ) → size ≤ length answer → laid bytes answer ≡ told_in size bytes answer
told_room size bytes answer room = sym (when_false (ltb (length answer) size) answer (laid bytes answer) (le-ltb (length answer) size room))

-- nothing told is nothing changed
pub told_none : (size : ℕ) (o : List ℕ) → size ≤ length o → o ≡ told_in size [] o
unfolding laid
told_none size o room = told_room size [] o room

-- what is told of x, where x is what the call answers and the answer has room for it
pub answers : {X : Type 0} (told : X → Told) (result : Told → ℕ) (size : ℕ) (answer : List ℕ) {after : List ℕ} (x y : X) → size ≤ length answer
    → x ≡ y → after ≡ told_in size (words_of (told x).values) answer
    → (result (told x) ≡ first_or (answer_row size answer ∷ []) (result (told y))) × (after ≡ told_in size (words_of (told y).values) answer)
answers {X} told result size answer x y room e h =
    let long : ltb (length answer) size ≡ false = le-ltb (length answer) size room in (
      ap (λ (z : X). result (told z)) e ∙ sym (when_false (ltb (length answer) size) 252 (result (told y)) long),
      h ∙ ap (λ (z : X). told_in size (words_of (told z).values) answer) e,
    )

-- Bools laid as bytes
pub heard_lays : (last : ℕ) (busy sink : Bool) (answer : List ℕ)
    → told_in 12 (words_of (last ∷ bool_byte busy ∷ bool_byte sink ∷ [])) answer ≡ told_in 12 (words_of (last ∷ flag_of busy ∷ flag_of sink ∷ [])) answer
heard_lays last true true answer = refl
heard_lays last true false answer = refl
heard_lays last false true answer = refl
heard_lays last false false answer = refl

-- an outcome that is no refusal is told something
pub heard_some : (x : Outcome) → outcome_of (Ok x) ≡ 0 → ⊥
heard_some Query h = omega arith
heard_some Reset h = omega arith
heard_some Repeat h = omega arith
heard_some Stored h = omega arith
heard_some (Released v len) h = omega arith

-- the words of an outcome that is no refusal
abbrev pub words_in : Result Outcome Refusal → List ℕ
words_in o = outcome_of o ∷ program_of o ∷ place_of o ∷ body_length o ∷ []

pub outcome_words : (x : Outcome) → values_of x ++ (body_length (Ok x) ∷ []) ≡ words_in (Ok x)
outcome_words Query = refl
outcome_words Reset = refl
outcome_words Repeat = refl
outcome_words Stored = refl
outcome_words (Released v len) = refl

-- four words, and a body copied after them
pub received_lays : (x : Outcome) (o : Result Outcome Refusal) (body answer f y ws : List ℕ) → 100 ≤ length answer → o ≡ Ok x → ws ≡ values_of x ++ (body_length (Ok x) ∷ [])
    → f ≡ told_in (4 * length ws) (words_of ws) answer
    → length body ≡ 84 → y ≡ body
    → put_mid 16 84 f y ≡ told_in 100 (received_bytes o body) answer
received_lays x o body answer f y ws room eo ew ef size ey =
    let us = words_in (Ok x) in
    let same : ws ≡ us = ew ∙ outcome_words x in
    let at : 16 ≡ length (words_of us) = sym (words_length us) in
    let fits : length (words_of us) ≤ length answer = omega arith in
    let some : 16 ≤ length answer = omega arith in
    let told : words_of us ++ body ≡ received_bytes (Ok x) body = sym (when_false (eqb (outcome_of (Ok x)) 0) [] (words_of us ++ body) (ne_eqb (outcome_of (Ok x)) 0 (heard_some x))) in
    let fl : f ≡ laid (words_of us) answer = ef ∙ ap (λ (v : List ℕ). told_in (4 * length v) (words_of v) answer) same ∙ sym (told_room 16 (words_of us) answer some) in
    let enough : 100 ≤ length f = omega (arith, ap length fl ∙ length_laid (words_of us) answer fits) in
    let less : length (words_of us) ≤ length (words_of us ++ body) = omega (arith, length-append (words_of us) body) in
    laid_copied 16 100 body f y (omega arith) enough ey
    ∙ ap (λ (x : List ℕ). laid (take 16 x ++ body) x) fl
    ∙ ap (λ (n : ℕ). laid (take n (laid (words_of us) answer) ++ body) (laid (words_of us) answer)) at
    ∙ ap (λ (x : List ℕ). laid (x ++ body) (laid (words_of us) answer)) (take_laid (words_of us) answer)
    ∙ laid_over (words_of us ++ body) (words_of us) answer less
    ∙ ap (λ (x : List ℕ). laid x answer) told
    ∙ told_room 100 (received_bytes (Ok x) body) answer room
    ∙ ap (λ (z : Result Outcome Refusal). told_in 100 (received_bytes z body) answer) (sym eo)

-- nothing, where it is refused
pub refused_lays : (o : Result Outcome Refusal) (body answer : List ℕ) → 100 ≤ length answer → outcome_of o ≡ 0
    → answer ≡ told_in 100 (received_bytes o body) answer
refused_lays o body answer room none =
    told_none 100 answer room
    ∙ ap (λ (x : List ℕ). told_in 100 x answer) (sym (when_true (eqb (outcome_of o) 0) [] (words_of (words_in o) ++ body) (eq-eqb (outcome_of o) 0 none)))
