-- `program::reader::read_command` meets its contract: the three bytes at the place decide the row, and the row says which form the
-- parameter has.
use Prim.Native.Nat.{◌+◌}
use mathlib.Core.Path.{refl, sym, ap, ◌∙◌}
use lib.ListN.{drop}
use Rattle.std.proofs.Common.{Ok, Err, None}
use Rattle.std.proofs.lemmas.Result.{err_from_is_err_and}
use Rattle.params.specs.Bytes.{param_of}
use Rattle.program.specs.Command.{made_of, row_of, read_of}
use Rattle.program.proofs.Rows.{got_caret, got_other, read_row}
use Rattle.program.proofs.Parameters.{ends_after}
use Rattle.program.proofs.reader.read_command.Goals as goal

pub returns-then-ne : goal.returns-then-ne
unfolding read_of
returns-then-ne c =
    let a = c.args in
    ap Err c.at-wrong.ensures
    ∙ sym (ap (row_of a.body.now a.place) (got_other a.body.now a.place c.get.result _ c.get.ensures.lookup refl (sym c.if-ne.true ∙ c.ne.ensures)))

pub returns-in_default : goal.returns-in_default
returns-in_default c =
    let a = c.args in
    let g = got_caret a.body.now a.place c.get.result _ c.get.ensures.lookup refl (sym c.if-ne.false ∙ c.ne.ensures) in
    ap Err c.at-wrong.ensures
    ∙ sym (read_row a.body.now a.place c.byte_at-x.result c.byte_at-y.result c.row.result g.0 g.1 c.byte_at-x.ensures c.byte_at-y.ensures c.row.ensures None c.in_default.is)

pub returns-in_err-read : goal.returns-in_err-read
returns-in_err-read c =
    let a = c.args in
    let g = got_caret a.body.now a.place c.get.result _ c.get.ensures.lookup refl (sym c.if-ne.false ∙ c.ne.ensures) in
    let p = err_from_is_err_and c.from_residual.result c.from_residual.ensures.1 in
    p.1 ∙ ap Err p.2
    ∙ ap (made_of c.in-Some.found.kind c.in-Some.found.form (a.place + c.in-Some.found.letters)) c.in_err-read.ensures
    ∙ sym (read_row a.body.now a.place c.byte_at-x.result c.byte_at-y.result c.row.result g.0 g.1 c.byte_at-x.ensures c.byte_at-y.ensures c.row.ensures _ c.in-Some.is)

pub command-requires : goal.command-requires
command-requires c =
    let a = c.args in
    let at = a.place + c.in-Some.found.letters in
    ends_after c.in-Some.found.form a.place at (param_of (drop at a.body.now)) c.in_ok-read.read (sym c.in_ok-read.ensures)

pub returns : goal.returns
returns c =
    let a = c.args in
    let g = got_caret a.body.now a.place c.get.result _ c.get.ensures.lookup refl (sym c.if-ne.false ∙ c.ne.ensures) in
    ap Ok c.command.ensures
    ∙ ap (made_of c.in-Some.found.kind c.in-Some.found.form (a.place + c.in-Some.found.letters)) c.in_ok-read.ensures
    ∙ sym (read_row a.body.now a.place c.byte_at-x.result c.byte_at-y.result c.row.result g.0 g.1 c.byte_at-x.ensures c.byte_at-y.ensures c.row.ensures _ c.in-Some.is)
