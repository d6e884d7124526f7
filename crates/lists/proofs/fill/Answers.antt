-- `lists::fill` meets its contract.
use Rattle.lists.proofs.Filling.{filling_more}
use Rattle.lists.proofs.fill.Goals as goal

pub loop-e-preserved : goal.loop-e-preserved
loop-e-preserved g c = filling_more c.loop-e.invariant c.loop-e-test.true
