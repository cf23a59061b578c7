-- `run` performs the command at its place.
use native.Mathlib.Omega.{arith}
use Rattle.measure.proofs.Columns.{part_all}
use Rattle.machine.proofs.Commands.{number_byte}
use Rattle.machine.proofs.Moves.{ran_good}
use Rattle.machine.proofs.Sounds.{held_most}
use Rattle.machine.proofs.Run.run.Goals as goal

pub moved-requires : goal.moved-requires
moved-requires c =
    let a = c.args in
    number_byte a.body.now a.self.place a.command c.requires.1

pub returns : goal.returns
returns c =
    let a = c.args in
    let p = c.requires in
    let d = a.command in
    let most = held_most a.body.now a.self.place a.self.inner p.0 in
    let wide = part_all a.body.now d.text d.len (omega (arith, most)) in
    ran_good a.body.now a.self d _ c.moved.result c.perform_at.result p.1 wide c.perform_at.ensures c.moved.ensures
