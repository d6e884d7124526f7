-- `clauses::outputs_end` meets its contract.
use native.Mathlib.Omega.{arith}
use Rattle.clauses.proofs.SpotLaws.{spot_in_column, nowhere_in_column}
use Rattle.clauses.proofs.outputs_end.Goals as goal

pub returns-in-Some : goal.returns-in-Some
returns-in-Some c =
    let e = c.in-Some.is in
    let w = rw e at c.requires in
    record { end = rw e; within = (omega (arith, w.1), spot_in_column e w.0) }

pub returns-in-None : goal.returns-in-None
returns-in-None c =
    let e = c.in-None.is in
    let w = c.width.ensures in
    record { end = rw e w.0; within = (w.1, nowhere_in_column _ _ e) }
