-- `frames::lookup::live` meets its contract.
use native.Mathlib.Omega.{arith}
use Rattle.frames.proofs.lookup.FirstLaws.{above-next}
use Rattle.frames.proofs.lookup.live.Goals as goal

pub loop-at-preserved : goal.loop-at-preserved
loop-at-preserved c =
    let i = c.loop-at.invariant in
    (omega (arith, i.0), omega (arith, c.loop-at-test.true), above-next _ _ _ i.2 (omega (arith, c.if-row-r.false)))
