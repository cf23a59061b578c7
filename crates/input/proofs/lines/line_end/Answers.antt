-- `line_end` meets its contract: the line ends at the first line end in what is left, or behind it.
use borrow.Author.Rules.{rules}
use Rattle.input.proofs.Ends.{ends_at}
use Rattle.input.proofs.lines.line_end.Goals as goal

pub returns : goal.returns
returns c =
    let a = c.args in
    ends_at a.text.now a.from c.unwrap_or.result c.first_end.result (search rules) c.first_end.ensures c.unwrap_or.ensures
