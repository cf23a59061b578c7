-- `yd_write_reply` has the writer's own outcomes.
use mathlib.Core.Path.{refl}
use Rattle.cabi.proofs.Lays.{tells}
use Rattle.cabi.proofs.wire.yd_write_reply.Goals as goal

pub returns : goal.returns
returns c = tells (refl, (refl, (refl, tt))) c.write_reply.ensures c.tell_written.ensures
