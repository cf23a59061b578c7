-- The guard before the table (N19): a forbidden MID is 19 whatever the bytes are, and any other MID reads by the table.
use Prim.Native.Nat.{ℕ}
use mathlib.Core.Path.{◌≡◌}
use mathlib.Core.List.{List}
use mathlib.Core.Bool.{true}
use Rattle.std.specs.Prelude.{Result, Err}
use Rattle.refusal.specs.declared.Refusal.{Refusal}
use Rattle.refusal.specs.declared.Refusal.TheVariants.{ForbiddenMid}
use Rattle.packet.specs.Mid.{is_forbidden, Allowed}
use Rattle.packet.proofs.Guards.{guard_stops, guard_passes, guard_past}
use Rattle.reader.specs.Read.{lowest_of, read_of}
use Rattle.reader.specs.declared.read.Packet.{Packet}

pub read_stops : (mid : ℕ) (b : List ℕ) → is_forbidden mid ≡ true → read_of mid b ≡ Err ForbiddenMid
unfolding read_of
read_stops mid b e = guard_stops mid (lowest_of mid b) e

pub read_passes : (mid : ℕ) (b : List ℕ) → Allowed mid → read_of mid b ≡ lowest_of mid b
unfolding read_of
read_passes mid b e = guard_passes mid (lowest_of mid b) e

pub read_past : (mid : ℕ) (b : List ℕ) (r : Result Packet Refusal) → read_of mid b ≡ r → (r ≡ Err ForbiddenMid → ⊥) → Allowed mid × (lowest_of mid b ≡ r)
unfolding read_of
read_past mid b r e other = guard_past mid (lowest_of mid b) r e other
