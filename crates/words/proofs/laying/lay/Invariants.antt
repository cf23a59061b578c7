-- `lay` lays word behind word: before each turn the buffer holds the first words at its front.
use mathlib.Core.Path.{◌≡◌}
use lib.ListN.{length, take}
use Rattle.basis.specs.Bytes.{laid}
use Rattle.words.specs.Words.{words_of}
use Rattle.words.proofs.laying.lay.Given as goal

abbrev pub invariant-loop-i : goal.invariant-loop-i
invariant-loop-i l = (l.out ≡ laid (words_of (take l.i l.words)) l.initial.out) × (length l.out ≡ length l.initial.out)
