-- Names and numbers for no are one to one, and a table whose numbers have names gives one of them.
use Rattle.std.proofs.Common.{◌≡◌, ◌<◌, Bool, true, false, List, [], ◌∷◌, sym, refl, ap, ◌∙◌, arith, Result, Ok, Err, Option, Some}
use Rattle.basis.specs.Choice.{when}
use Rattle.basis.specs.Rows.{Row, ◌if◌, first_of}
use Rattle.refusal.specs.Refusal.{number_of, refusal_of, fault, Named, AllNamed}
use Rattle.refusal.specs.declared.Fault.{Fault}
use Rattle.refusal.specs.declared.Refusal.{Refusal}
use Rattle.refusal.specs.declared.Refusal.TheVariants.{TooFewBytes, TooManyBytes, WrongCount, WrongChecksum, OtherMid, WrongMark, WrongEnd, UnknownId, WrongSize, WrongPlace, ShortPart, Busy, OtherPacket, Unsound, WrongStart, ForbiddenMid, NoCaret, NoCommand, WrongNumber, WrongByte, LoneTilde, WrongLoop, BehindEnd, LongBody, WrongBody, WrongId, NoPosition, NoRoom, NoReply}

-- the number of a name has that name
pub name_back : (e : Refusal) → refusal_of (number_of e) ≡ e
name_back TooFewBytes = refl
name_back TooManyBytes = refl
name_back WrongCount = refl
name_back WrongChecksum = refl
name_back OtherMid = refl
name_back WrongMark = refl
name_back WrongEnd = refl
name_back UnknownId = refl
name_back WrongSize = refl
name_back WrongPlace = refl
name_back ShortPart = refl
name_back Busy = refl
name_back OtherPacket = refl
name_back Unsound = refl
name_back WrongStart = refl
name_back ForbiddenMid = refl
name_back NoCaret = refl
name_back NoCommand = refl
name_back WrongNumber = refl
name_back WrongByte = refl
name_back LoneTilde = refl
name_back WrongLoop = refl
name_back BehindEnd = refl
name_back LongBody = refl
name_back WrongBody = refl
name_back WrongId = refl
name_back NoPosition = refl
name_back NoRoom = refl
name_back NoReply = refl

-- names of one number are one
pub one_name : (d e : Refusal) → number_of d ≡ number_of e → d ≡ e
one_name d e h = sym (name_back d) ∙ ap refusal_of h ∙ name_back e

-- no number for no is 0
pub number_some : (e : Refusal) → 0 < number_of e
number_some TooFewBytes = omega arith
number_some TooManyBytes = omega arith
number_some WrongCount = omega arith
number_some WrongChecksum = omega arith
number_some OtherMid = omega arith
number_some WrongMark = omega arith
number_some WrongEnd = omega arith
number_some UnknownId = omega arith
number_some WrongSize = omega arith
number_some WrongPlace = omega arith
number_some ShortPart = omega arith
number_some Busy = omega arith
number_some OtherPacket = omega arith
number_some Unsound = omega arith
number_some WrongStart = omega arith
number_some ForbiddenMid = omega arith
number_some NoCaret = omega arith
number_some NoCommand = omega arith
number_some WrongNumber = omega arith
number_some WrongByte = omega arith
number_some LoneTilde = omega arith
number_some WrongLoop = omega arith
number_some BehindEnd = omega arith
number_some LongBody = omega arith
number_some WrongBody = omega arith
number_some WrongId = omega arith
number_some NoPosition = omega arith
number_some NoRoom = omega arith
number_some NoReply = omega arith

-- the number of a name has a name
pub number_named : (e : Refusal) → Named (number_of e)
number_named e = ap number_of (name_back e)

-- a table that refuses gives a number with a name
pub first_named : (rows : List Row) → AllNamed rows → 0 < first_of rows → Named (first_of rows)
first_named [] all h = absurd (omega arith)
first_named (n if b ∷ rows) all h = go b (first_named rows all.1) h
  where
    go : (t : Bool) → (0 < first_of rows → Named (first_of rows)) → 0 < when t n (first_of rows) → Named (when t n (first_of rows))
    go true rest k = all.0
    go false rest k = rest k

-- a fault is made of its number and its place
pub fault_back : (f : Fault) → fault (number_of f.refusal) f.place ≡ f
fault_back f = ap (λ (e : Refusal). record { refusal = e; place = f.place }) (name_back f.refusal)

-- what is within an `Ok`, an `Err` or a `Some` is one where these are
pub ok_one : {A E : Type 0} {x y : A} → ◌≡◌ {A = Result A E} (Ok x) (Ok y) → x ≡ y
ok_one h = cc

pub err_one : {A E : Type 0} {x y : E} → ◌≡◌ {A = Result A E} (Err x) (Err y) → x ≡ y
err_one h = cc

pub some_one : {A : Type 0} {x y : A} → ◌≡◌ {A = Option A} (Some x) (Some y) → x ≡ y
some_one h = cc
