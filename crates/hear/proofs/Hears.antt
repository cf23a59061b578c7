-- Bytes that come to a sound frame are judged by what is read of them.
use Prim.Native.Nat.{ℕ}
use mathlib.Core.List.{List}
use mathlib.Core.Bool.{true, false}
use mathlib.Core.Path.{◌≡◌, sym, ap, ◌∙◌}
use lib.Dec.{eqb}
use borrow.Author.Tests.{eq-eqb}
use Rattle.basis.proofs.Choices.{when_true, when_false, and_parts}
use Rattle.std.specs.Prelude.{Result, Err}
use Rattle.refusal.specs.declared.Refusal.TheVariants.{Unsound, ForbiddenMid}
use Rattle.refusal.specs.declared.Refusal.{Refusal}
use Rattle.completed.specs.Completed.{sound_of as completed_sound}
use Rattle.completed.specs.declared.Completed.{Completed}
use Rattle.packet.specs.Mid.{is_forbidden, Allowed}
use Rattle.reader.specs.Read.{lowest_of, read_of}
use Rattle.reader.proofs.Guard.{read_stops, read_passes}
use Rattle.reader.specs.declared.read.Packet.{Packet}
use Rattle.collect.specs.Slots.{Collection, slots_in}
use Rattle.collect.specs.Sound.{nothing_of, sound_of as collection_sound}
use Rattle.hear.specs.Frame.{framed_by}
use Rattle.hear.specs.Hear.{heard_of, hear_of}
use Rattle.hear.specs.Join.{Left, stay_of}

-- what is collected beside no body is sound
pub framed_collection : (completed : Completed) (c : Collection) (len : ℕ) → framed_by completed c len ≡ true → len ≡ 0 → collection_sound completed c ≡ true
framed_collection completed c len e ready =
    sym (when_true (eqb len 0) (collection_sound completed c) (nothing_of (slots_in c)) (eq-eqb len 0 ready)) ∙ (and_parts (completed_sound completed) _ e).1

pub framed_hears : (completed : Completed) (c : Collection) (len mid : ℕ) (b : List ℕ) → framed_by completed c len ≡ true
    → hear_of completed c len mid b ≡ heard_of completed c len b (read_of mid b)
unfolding hear_of
framed_hears completed c len mid b e = when_true (framed_by completed c len) (heard_of completed c len b (read_of mid b)) (stay_of completed c (Err Unsound)) e

-- a forbidden MID is 19, and any other is heard by the reader's table
pub forbidden_hears : (completed : Completed) (c : Collection) (len mid : ℕ) (b : List ℕ) → framed_by completed c len ≡ true → is_forbidden mid ≡ true
    → hear_of completed c len mid b ≡ stay_of completed c (Err ForbiddenMid)
forbidden_hears completed c len mid b framed e = framed_hears completed c len mid b framed ∙ ap (heard_of completed c len b) (read_stops mid b e)

pub allowed_hears : (completed : Completed) (c : Collection) (len mid : ℕ) (b : List ℕ) → framed_by completed c len ≡ true → Allowed mid
    → hear_of completed c len mid b ≡ heard_of completed c len b (lowest_of mid b)
allowed_hears completed c len mid b framed e = framed_hears completed c len mid b framed ∙ ap (heard_of completed c len b) (read_passes mid b e)

pub unframed_hears : (completed : Completed) (c : Collection) (len mid : ℕ) (b : List ℕ) → framed_by completed c len ≡ false → hear_of completed c len mid b ≡ stay_of completed c (Err Unsound)
unfolding hear_of
unframed_hears completed c len mid b e = when_false (framed_by completed c len) (heard_of completed c len b (read_of mid b)) (stay_of completed c (Err Unsound)) e

pub hears_as : (completed : Completed) (c : Collection) (len mid : ℕ) (b : List ℕ) (x y : Result Packet Refusal) (l : Left) → framed_by completed c len ≡ true → x ≡ read_of mid b → x ≡ y
    → l ≡ heard_of completed c len b y
    → l ≡ hear_of completed c len mid b
hears_as completed c len mid b x y l e read told q = q ∙ ap (heard_of completed c len b) (sym told ∙ read) ∙ sym (framed_hears completed c len mid b e)
