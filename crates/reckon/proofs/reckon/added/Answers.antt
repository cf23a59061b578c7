-- `added` performs the command at the place and adds its cost.
use mathlib.Core.Path.{refl}
use native.Mathlib.Omega.{arith}
use Rattle.machine.proofs.Commands.{number_byte}
use Rattle.reckon.proofs.Reckons.{added_is}
use Rattle.reckon.proofs.reckon.added.Goals as goal

pub overflow_cast-command : goal.overflow_cast-command
overflow_cast-command c =
    let a = c.args in
    omega (arith, number_byte a.body.now a.at.place a.command c.requires)

pub returns : goal.returns
returns c =
    let a = c.args in
    added_is a.body.now a.at a.command c.requires _ c.perform-performed.result c.behind.result c.plus.result c.cost.result refl c.perform-performed.ensures c.behind.ensures c.cost.ensures c.plus.ensures
