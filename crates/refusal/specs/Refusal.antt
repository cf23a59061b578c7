-- The rules' numbers for no (N1 to N35), the name that each has in the code, and answers that are refused by name.
use Rattle.std.specs.Prelude.{◌≡◌, ℕ, zero, suc, eqb, List, [], ◌∷◌, ◌++◌, codes, decimal, Result, Ok, Err}
use Rattle.basis.specs.Choice.{when}
use Rattle.basis.specs.Rows.{Row, ◌if◌}
use Rattle.basis.specs.Told.{Told, yes, no, no_at}
use Rattle.refusal.specs.declared.Fault.{Fault}
use Rattle.refusal.specs.declared.Refusal.{Refusal}
use Rattle.refusal.specs.declared.Refusal.TheVariants.{TooFewBytes, TooManyBytes, WrongCount, WrongChecksum, OtherMid, WrongMark, WrongEnd, UnknownId, WrongSize, WrongPlace, ShortPart, Busy, OtherPacket, Unsound, WrongStart, ForbiddenMid, NoCaret, NoCommand, WrongNumber, WrongByte, LoneTilde, WrongLoop, BehindEnd, LongBody, WrongBody, WrongId, NoPosition, NoRoom, NoReply}

-- the number of a name
abbrev pub number_of : Refusal → ℕ
number_of TooFewBytes = 1
number_of TooManyBytes = 2
number_of WrongCount = 3
number_of WrongChecksum = 4
number_of OtherMid = 5
number_of WrongMark = 6
number_of WrongEnd = 7
number_of UnknownId = 8
number_of WrongSize = 9
number_of WrongPlace = 10
number_of ShortPart = 11
number_of Busy = 12
number_of OtherPacket = 13
number_of Unsound = 16
number_of WrongStart = 17
number_of ForbiddenMid = 19
number_of NoCaret = 21
number_of NoCommand = 22
number_of WrongNumber = 23
number_of WrongByte = 24
number_of LoneTilde = 25
number_of WrongLoop = 26
number_of BehindEnd = 27
number_of LongBody = 28
number_of WrongBody = 31
number_of WrongId = 32
number_of NoPosition = 33
number_of NoRoom = 34
number_of NoReply = 35

-- the name of a number. A number without a name gets the name of 1, and no table holds such a number (`AllNamed`)
abbrev pub refusal_of : ℕ → Refusal
refusal_of n =
    when (eqb n 2) TooManyBytes (
    when (eqb n 3) WrongCount (
    when (eqb n 4) WrongChecksum (
    when (eqb n 5) OtherMid (
    when (eqb n 6) WrongMark (
    when (eqb n 7) WrongEnd (
    when (eqb n 8) UnknownId (
    when (eqb n 9) WrongSize (
    when (eqb n 10) WrongPlace (
    when (eqb n 11) ShortPart (
    when (eqb n 12) Busy (
    when (eqb n 13) OtherPacket (
    when (eqb n 16) Unsound (
    when (eqb n 17) WrongStart (
    when (eqb n 19) ForbiddenMid (
    when (eqb n 21) NoCaret (
    when (eqb n 22) NoCommand (
    when (eqb n 23) WrongNumber (
    when (eqb n 24) WrongByte (
    when (eqb n 25) LoneTilde (
    when (eqb n 26) WrongLoop (
    when (eqb n 27) BehindEnd (
    when (eqb n 28) LongBody (
    when (eqb n 31) WrongBody (
    when (eqb n 32) WrongId (
    when (eqb n 33) NoPosition (
    when (eqb n 34) NoRoom (
    when (eqb n 35) NoReply (
    TooFewBytes))))))))))))))))))))))))))))

-- a number that has a name
abbrev pub Named : ℕ → Type 0
Named n = number_of (refusal_of n) ≡ n

-- each number of a table has one
abbrev pub AllNamed : List Row → Type 0
AllNamed [] = Unit
AllNamed (n if b ∷ rows) = Named n × AllNamed rows

-- refused by the name of that number, or answered where it is 0, which is what a table says of which no row applies
abbrev pub refused_or : {A : Type 0} → ℕ → A → Result A Refusal
refused_or zero answer = Ok answer
refused_or (suc n) answer = Err (refusal_of (suc n))

-- this refusal at this place
abbrev pub fault_at : Refusal → (place : ℕ) → Fault
fault_at e place = record { refusal = e; place = place }

-- a fault of this number at this place
abbrev pub fault : (number place : ℕ) → Fault
fault number place = record { refusal = refusal_of number; place = place }

-- what is printed: `refused 31`, and for a fault `refused 23 at 5`
abbrev pub refusal_text : Refusal → List ℕ
refusal_text e = codes "refused " ++ decimal (number_of e)

abbrev pub fault_text : Fault → List ℕ
fault_text f = refusal_text f.refusal ++ codes " at " ++ decimal f.place

-- the answer in the rules' numbers, by what the values of a yes are
abbrev pub told_by : {A : Type 0} → (A → List ℕ) → Result A Refusal → Told
told_by values (Ok answer) = yes (values answer)
told_by values (Err e) = no (number_of e)

abbrev pub told_at : {A : Type 0} → (A → List ℕ) → Result A Fault → Told
told_at values (Ok answer) = yes (values answer)
told_at values (Err f) = no_at (number_of f.refusal) f.place
