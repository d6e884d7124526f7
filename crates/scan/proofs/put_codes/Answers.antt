-- `scan::put_codes` meets its contract.
use native.Mathlib.Omega.{arith}
use Rattle.scan.proofs.RowPutting.{putting_start, putting_stands, putting_fits, putting_more, putting_done}
use Rattle.scan.proofs.put_codes.Goals as goal

pub loop-i-init : goal.loop-i-init
loop-i-init c = putting_start _ _ _ _ _

pub known-d-requires : goal.known-d-requires
known-d-requires c = putting_stands c.loop-i.invariant c.loop-i-test.true c.requires.0

pub overflow_add-p : goal.overflow_add-p
overflow_add-p c = omega (arith, putting_fits c.loop-i.invariant c.known-d.ensures)

pub loop-i-preserved : goal.loop-i-preserved
loop-i-preserved c = putting_more c.loop-i.invariant c.known-d.ensures c.loop-i-test.true c.requires.1

pub returns : goal.returns
returns c = putting_done c.loop-i.invariant c.loop-i-test.false
