-- `record::begin_record` meets its contract.
use mathlib.Core.Path.{refl}
use Rattle.record.proofs.Steps.{begin_short, begin_whole}
use Rattle.record.proofs.begin_record.Goals as goal

pub returns-then-out-total : goal.returns-then-out-total
returns-then-out-total c = let b = begin_short _ _ _ c.if-out-total.true in record { value = b.0; out_after = b.1 }

pub slice_bounds-put_words-end : goal.slice_bounds-put_words-end
slice_bounds-put_words-end c = refl

pub returns : goal.returns
returns c =
    let b = begin_whole _ _ _ _ c.if-out-total.false c.put_words.ensures in record { value = b.0; out_after = b.1 }
