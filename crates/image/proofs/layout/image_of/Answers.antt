-- `image_of` stores the single bytes and copies the three arrays, the last before the first.
use Rattle.image.specs.Layout.{image_of}
use Rattle.image.proofs.layout.image_of.Goals as goal

pub returns : goal.returns
unfolding image_of
returns c = rw (c.copy_from_slice-3.ensures.after, c.copy_from_slice-2.ensures.after, c.copy_from_slice.ensures.after)
