use Rattle.record.proofs.Steps.{WordsTo}
use Rattle.record.proofs.put_words.Given as goal

abbrev pub invariant-loop-i : goal.invariant-loop-i
invariant-loop-i l = WordsTo l.initial.out l.at l.ws l.out l.i
