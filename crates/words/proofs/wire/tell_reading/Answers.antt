-- `tell_reading` lays the words of each reading; a refusal lays none.
use mathlib.Core.Path.{sym, ◌∙◌}
use Rattle.basis.specs.Told.{Told}
use Rattle.reader.specs.Read.{told_of}
use Rattle.words.specs.Words.{words_of}
use Rattle.words.proofs.Lays.{answers, told_none}
use borrow.Author.Rules.{rules}
use Rattle.std.specs.Prelude.{Err}
use Rattle.words.proofs.wire.tell_reading.Goals as goal

pub returns-in-Err : goal.returns-in-Err
unfolding words_of
returns-in-Err c =
    let a = c.args in
    let told = answers told_of (λ (t : Told). t.number) 20 a.answer.now (Err c.in-Err.e) a.reading (search rules) (sym c.in-Err.is) (told_none _ a.answer.now (search rules)) in
    record { result = c.number.ensures ∙ told.0; told = told.1 }
