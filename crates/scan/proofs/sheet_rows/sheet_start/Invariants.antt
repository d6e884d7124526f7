use Prim.Native.Nat.{◌-◌}
use lib.ListN.{length}
use Rattle.characters.specs.white_space.Lines.{ValidTo}
use Rattle.scan.proofs.sheet_rows.Measuring.{Seeking}
use Rattle.scan.proofs.sheet_rows.sheet_start.Given as goal

abbrev pub invariant-loop-start : goal.invariant-loop-start
invariant-loop-start l = Seeking l.s l.from l.start.at × ValidTo l.s l.from l.start.at l.start.valid

abbrev pub decreases-loop-start : goal.decreases-loop-start
decreases-loop-start l = length l.s - l.start.at
