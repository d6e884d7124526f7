-- `lists::put_bytes` meets its contract.
use Rattle.lists.proofs.Copying.{copying_start, copying_more, copying_end}
use Rattle.lists.proofs.put_bytes.Goals as goal

pub loop-j-init : goal.loop-j-init
loop-j-init c = copying_start _ _ _ c.requires

pub loop-j-preserved : goal.loop-j-preserved
loop-j-preserved c = copying_more c.loop-j.invariant c.loop-j-test.true

pub shape_of-out : goal.shape_of-out
shape_of-out c = c.loop-j.invariant.long

pub returns : goal.returns
returns c = copying_end c.loop-j.invariant c.loop-j-test.false
