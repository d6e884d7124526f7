-- `record::put_words` meets its contract.
use native.Mathlib.Omega.{arith}
use Rattle.record.proofs.Steps.{words-start, words-next, words_end}
use Rattle.record.proofs.put_words.Goals as goal

pub loop-i-init : goal.loop-i-init
loop-i-init c = words-start _ _ _ c.requires

pub loop-i-preserved : goal.loop-i-preserved
loop-i-preserved c = words-next c.loop-i.invariant _ (omega arith) (omega arith) c.put_word.ensures

pub returns : goal.returns
returns c = words_end c.loop-i.invariant c.loop-i-test.false
