use Rattle.scan.proofs.RowPutting.{Putting}
use Rattle.scan.proofs.put_codes.Given as goal

abbrev pub invariant-loop-i : goal.invariant-loop-i
invariant-loop-i l = Putting l.s l.fn.row.from l.fn.row.count l.initial.out l.base l.out l.p l.i
