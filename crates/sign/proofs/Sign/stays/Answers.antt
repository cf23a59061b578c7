-- `stays` hands back the record it was given.
use Rattle.sign.specs.Join.{stays_of}
use mathlib.Core.Path.{refl}
use Rattle.sign.proofs.Sign.stays.Goals as goal

pub returns : goal.returns
unfolding stays_of
returns c = refl
