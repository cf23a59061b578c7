use borrow.Author.Rules.{rules}
use Rattle.basis.specs.Bytes.{laid}
use Rattle.words.specs.Words.{words_of}
use Rattle.words.proofs.Lays.{next_word}
use Rattle.words.proofs.laying.lay.Goals as goal

pub loop-i-init : goal.loop-i-init
unfolding laid words_of
loop-i-init c = search rules

pub loop-i-preserved : goal.loop-i-preserved
loop-i-preserved c =
    let a = c.args in
    let l = c.loop-i in
    next_word a.words.now a.out.now l.out _ l.i (search rules) (search rules) l.invariant.0 c.put.ensures
