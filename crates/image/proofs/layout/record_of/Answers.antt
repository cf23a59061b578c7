-- `record_of` copies the three arrays out and reads the other bytes at their places.
use Rattle.image.specs.Layout.{record_of}
use Rattle.image.proofs.layout.record_of.Goals as goal

pub returns : goal.returns
unfolding record_of
returns c = rw (c.copy_from_slice.ensures.after, c.copy_from_slice-2.ensures.after, c.copy_from_slice-3.ensures.after)
