-- `values::measure_values` meets its contract.
use Rattle.values.proofs.ValueLaws.{measured_plain, measured_marked}
use Rattle.values.proofs.measure_values.Goals as goal

pub returns-in_err-f : goal.returns-in_err-f
returns-in_err-f c = rw c.from_residual.ensures (measured_plain c.in_err-f.ensures)

pub returns : goal.returns
returns c = measured_marked c.in_ok-f.ensures c.measure-bytes.ensures
