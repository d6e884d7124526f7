use Prim.Native.Nat.{◌-◌}
use lib.ListN.{length}
use Rattle.characters.specs.white_space.Lines.{ValidTo}
use Rattle.scan.proofs.sheet_rows.Measuring.{Measuring}
use Rattle.scan.proofs.sheet_rows.Keeping.{Keeping}
use Rattle.scan.proofs.sheet_rows.measure.Given as goal

abbrev pub invariant-loop-end : goal.invariant-loop-end
invariant-loop-end l = Measuring l.s l.fn.start.at l.end.at l.rows l.columns × (Keeping l.s l.fn.start.at l.end.at l.rows l.kept.items × ValidTo l.s l.fn.start.valid l.end.at l.end.valid)

abbrev pub decreases-loop-end : goal.decreases-loop-end
decreases-loop-end l = length l.s - l.end.at
