-- `taking` begins anew where nothing is collected, or another ID.
use Rattle.basis.proofs.Tests.{tests}
use Rattle.collect.specs.Slots.{begun_of}
use Rattle.hear.proofs.join.taking.Goals as goal

pub returns-then-slots-eq0 : goal.returns-then-slots-eq0
unfolding begun_of
returns-then-slots-eq0 c = search (tests, c.begun.ensures)

pub returns-then-slots-id : goal.returns-then-slots-id
unfolding begun_of
returns-then-slots-id c = search (tests, c.begun-then-slots-id.ensures)
