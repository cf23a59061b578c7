-- `tell_forecast` lays the words of each answer; a refusal lays none.
use mathlib.Core.Path.{sym, ◌∙◌}
use Rattle.basis.specs.Told.{Told}
use Rattle.reckon.specs.Forecast.{told_of}
use Rattle.words.specs.Words.{words_of, result_of}
use Rattle.words.proofs.Lays.{answers, told_none}
use borrow.Author.Rules.{rules}
use Rattle.words.proofs.line.tell_forecast.Goals as goal
use Rattle.std.proofs.Common.{Err}

pub returns-in-Err : goal.returns-in-Err
unfolding words_of
returns-in-Err c =
    let a = c.args in
    let t = answers told_of (λ (t : Told). result_of t.number t.place) 24 a.answer.now (Err c.in-Err.fault) a.foretold (search rules) (sym c.in-Err.is) (told_none _ a.answer.now (search rules)) in
    record { result = c.faulted.ensures ∙ t.0; told = t.1 }
