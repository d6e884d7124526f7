-- `record::put_slot` meets its contract.
use Rattle.record.proofs.Steps.{two_words}
use Rattle.record.proofs.put_slot.Goals as goal

pub returns : goal.returns
returns c =
    two_words _ _ _ _ _ _ c.requires.0 c.put_word.ensures c.put_word-2.ensures
