-- `read_words` meets its promise: the words left, behind what is read, are all words. Assumes nothing.
use Rattle.std.proofs.lemmas.Result.{err_from_is_err_and}
use Rattle.script.proofs.LineLaws.{words-fault, words_more, words-done}
use Rattle.script.proofs.read_words.Goals as goal

pub returns-in_err-next : goal.returns-in_err-next
returns-in_err-next c =
    let p = err_from_is_err_and c.from_residual.result c.from_residual.ensures.1 in
    rw (p.1, p.2) (words-fault _ _ _ _ _ c.loop-i.invariant c.loop-i-test.true (rw c.word.ensures at c.in_err-next.ensures))

pub loop-i-preserved : goal.loop-i-preserved
loop-i-preserved c =
    words_more _ _ _ _ _ c.loop-i.invariant c.loop-i-test.true (rw c.word.ensures at c.in_ok-next.ensures)

pub returns : goal.returns
returns c = words-done _ _ _ _ _ c.loop-i.invariant c.loop-i-test.false
