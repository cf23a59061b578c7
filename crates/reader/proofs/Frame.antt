-- A frame that numbers 1 to 8 let pass is read by its fields alone.
use Prim.Native.Nat.{ℕ, ◌-◌, ◌≤◌, ◌%◌}
use mathlib.Core.Path.{◌≡◌}
use mathlib.Core.List.{List}
use lib.ListN.{length, get_or}
use Rattle.basis.specs.Bytes.{sum}
use Rattle.basis.proofs.Tests.{tests}
use Rattle.reader.specs.Read.{lowest_of, fields_of}

pub frame_right : (mid : ℕ) (b : List ℕ) → 7 ≤ length b → length b ≤ 21 → get_or b 2 0 ≡ length b → sum b % 256 ≡ 0
    → get_or b 0 0 ≡ mid → get_or b 1 0 ≡ 0x7F → get_or b (length b - 2) 0 ≡ 0 → get_or b 3 0 ≤ 0x41
    → lowest_of mid b ≡ fields_of (get_or b 3 0) (get_or b 4 0) (length b)
unfolding lowest_of
frame_right mid b least most count balanced to_it marked ended known = search tests
