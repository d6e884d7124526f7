-- `plane::lent::cell_of_kind` meets its contract.
use Rattle.model.proofs.CellLaws.{last-kind}
use Rattle.plane.proofs.lent.cell_of_kind.Goals as goal

pub returns-in-0 : goal.returns-in-0
returns-in-0 c = rw c.in-0.is

pub returns-in-1 : goal.returns-in-1
returns-in-1 c = rw c.in-1.is

pub returns-in-2 : goal.returns-in-2
returns-in-2 c = rw c.in-2.is

pub returns-in-3 : goal.returns-in-3
returns-in-3 c = rw c.in-3.is

pub returns-in-4 : goal.returns-in-4
returns-in-4 c = rw c.in-4.is

pub returns-in-5 : goal.returns-in-5
returns-in-5 c = rw c.in-5.is

pub returns-in-6 : goal.returns-in-6
returns-in-6 c = rw c.in-6.is

pub returns-in_default : goal.returns-in_default
returns-in_default c = let r = c.in_default.in_default-own.rest in last-kind _ _ r.0.0.0.0.0.0.1 r.0.0.0.0.0.1 r.0.0.0.0.1 r.0.0.0.1 r.0.0.1 r.0.1 r.1
