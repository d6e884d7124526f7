-- `values::search::shift_after` meets its contract.
use Rattle.values.proofs.search.Shifting.{shifting_start, shifting_end, shifting_more, shifting_fits, shifting_found}
use Rattle.values.proofs.search.shift_after.Goals as goal

pub loop-i-init : goal.loop-i-init
loop-i-init c = shifting_start

pub overflow_sub-result : goal.overflow_sub-result
overflow_sub-result c =
    shifting_fits c.loop-i.invariant c.loop-i-test.true c.covers.ensures c.if-covers.true

pub returns-then-covers : goal.returns-then-covers
returns-then-covers c =
    shifting_found c.loop-i.invariant c.loop-i-test.true c.covers.ensures c.if-covers.true

pub loop-i-preserved : goal.loop-i-preserved
loop-i-preserved c =
    shifting_more c.loop-i.invariant c.loop-i-test.true c.covers.ensures c.if-covers.false

pub returns : goal.returns
returns c = shifting_end c.loop-i.invariant c.loop-i-test.false
