-- The examples that the rules mark with a star, as one table under one statement (P5).
use Rattle.std.specs.Prelude.{ℕ, false, List, [], ◌∷◌, ◌++◌, ◌≡◌, replicate, Result, Ok, Err}
use Rattle.refusal.specs.declared.Refusal.{Refusal}
use Rattle.refusal.specs.declared.Refusal.TheVariants.{WrongChecksum, OtherMid, ForbiddenMid}
use Rattle.packet.specs.Wire.{packet_of, query_of, reset_of}
use Rattle.reader.specs.Read.{read_of}
use Rattle.judge.specs.Verdict.{Verdict, judge_of}
use Rattle.refusal.specs.declared.Fault.{Fault}
use Rattle.refusal.specs.Refusal.{fault}
use Rattle.reader.specs.declared.read.Packet.{Packet}
use Rattle.reader.specs.declared.read.Packet.TheVariants.{Normal}
use Rattle.reckon.specs.Forecast.{forecast_of}
use Rattle.totals.specs.Totals.{totals_of}
use Rattle.reckon.specs.declared.reckon.Foretold.{Foretold}
use Rattle.reckon.specs.declared.reckon.Foretold.TheVariants.{Ends}
use Rattle.sign.specs.Reset.{power_on}
use Rattle.sign.specs.Tell.{says_of}

-- what an example says: bytes that a sign of a MID reads so, bytes that are the very packet or reply, a body that is judged so, a
-- body that is foretold so at pace 4 and one scan
pub data Example : Type 0 where
  reads : (mid : ℕ) → List ℕ → Result Packet Refusal → Example
  carries : (bytes packet : List ℕ) → Example
  judges : List ℕ → Verdict → Example
  foretells : List ℕ → Result Foretold Fault → Example

-- an example holds of the definitions
abbrev pub Holds : Example → Type 0
Holds (reads mid b r) = read_of mid b ≡ r
Holds (carries b p) = b ≡ p
Holds (judges b v) = judge_of b ≡ v
Holds (foretells b f) = forecast_of b 4 1 ≡ f

abbrev pub All : List Example → Type 0
All [] = Unit
All (x ∷ xs) = Holds x × All xs

-- `^IIHI`, and its packet for MID 80h and ID 5
abbrev pub hi : List ℕ
hi = 0x5E ∷ 0x49 ∷ 0x49 ∷ 0x48 ∷ 0x49 ∷ []

abbrev pub packet : ℕ → List ℕ
packet last = 0x80 ∷ 0x7F ∷ 0x0C ∷ 0x05 ∷ 0x10 ∷ 0x5E ∷ 0x49 ∷ 0x49 ∷ 0x48 ∷ 0x49 ∷ 0x00 ∷ last ∷ []

-- a query to the forbidden MID 7Fh
abbrev pub query7_f : List ℕ
query7_f = 0x7F ∷ 0x7F ∷ 0x07 ∷ 0x40 ∷ 0x10 ∷ 0x00 ∷ 0xAB ∷ []

-- `^W5`, `^L3^W2^E`, `^SHI`, `^S`, `^=6^P1^SA`
abbrev pub w5 : List ℕ
w5 = 0x5E ∷ 0x57 ∷ 0x35 ∷ []

abbrev pub l3w2e : List ℕ
l3w2e = 0x5E ∷ 0x4C ∷ 0x33 ∷ 0x5E ∷ 0x57 ∷ 0x32 ∷ 0x5E ∷ 0x45 ∷ []

abbrev pub shi : List ℕ
shi = 0x5E ∷ 0x53 ∷ 0x48 ∷ 0x49 ∷ []

abbrev pub s : List ℕ
s = 0x5E ∷ 0x53 ∷ []

abbrev pub slow : List ℕ
slow = 0x5E ∷ 0x3D ∷ 0x36 ∷ 0x5E ∷ 0x50 ∷ 0x31 ∷ 0x5E ∷ 0x53 ∷ 0x41 ∷ []

-- `^IA`, 15 times `A`, `~d`, `A`
abbrev pub edge : List ℕ
edge = 0x5E ∷ 0x49 ∷ 0x41 ∷ (replicate 15 0x41 ++ (0x7E ∷ 0x64 ∷ 0x41 ∷ []))

-- `^L1^L2^E^E`, `^P21`, `^IIa~x`, `^L1^W1`
abbrev pub nested : List ℕ
nested = 0x5E ∷ 0x4C ∷ 0x31 ∷ 0x5E ∷ 0x4C ∷ 0x32 ∷ 0x5E ∷ 0x45 ∷ 0x5E ∷ 0x45 ∷ []

abbrev pub p21 : List ℕ
p21 = 0x5E ∷ 0x50 ∷ 0x32 ∷ 0x31 ∷ []

abbrev pub tilde : List ℕ
tilde = 0x5E ∷ 0x49 ∷ 0x49 ∷ 0x61 ∷ 0x7E ∷ 0x78 ∷ []

abbrev pub unclosed : List ℕ
unclosed = 0x5E ∷ 0x4C ∷ 0x31 ∷ 0x5E ∷ 0x57 ∷ 0x31 ∷ []

-- steps, scans, milliseconds, and the pace and scan setting left
abbrev pub costs : (steps scans millis pace each : ℕ) → Result Foretold Fault
costs steps scans millis pace each = Ok (Ends (totals_of steps scans millis) pace each)

abbrev pub starred : List Example
starred =
    reads 0x80 (packet 0x5F) (Ok (Normal 5 1 0 5))
    ∷ carries (packet 0x5F) (packet_of 0x80 5 0x10 hi)
    ∷ reads 0x80 (packet 0x60) (Err WrongChecksum)
    ∷ reads 0x7F query7_f (Err ForbiddenMid)
    ∷ reads 0x80 query7_f (Err OtherMid)
    ∷ carries (0x80 ∷ 0x7F ∷ 0x07 ∷ 0x40 ∷ 0x10 ∷ 0x00 ∷ 0xAA ∷ []) (query_of 0x80)
    ∷ carries (0x80 ∷ 0x7F ∷ 0x07 ∷ 0x41 ∷ 0x10 ∷ 0x00 ∷ 0xA9 ∷ []) (reset_of 0x80)
    ∷ carries (0x81 ∷ 0x7F ∷ 0x08 ∷ 0x41 ∷ 0x52 ∷ 0x46 ∷ 0x00 ∷ 0x1F ∷ []) (says_of power_on 0x80 false)
    ∷ foretells w5 (costs 1 0 500 4 1)
    ∷ foretells l3w2e (costs 7 0 600 4 1)
    ∷ foretells shi (costs 1 108 2400 4 1)
    ∷ foretells s (costs 1 0 0 4 1)
    ∷ foretells slow (costs 3 612 20400 1 6)
    ∷ foretells edge (costs 1 7 156 4 1)
    ∷ judges nested (Err (fault 26 3))
    ∷ judges p21 (Err (fault 23 0))
    ∷ judges tilde (Err (fault 25 4))
    ∷ judges unclosed (Err (fault 26 0))
    ∷ []
