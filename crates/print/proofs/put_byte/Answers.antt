-- `print::put_byte` meets its contract.
use native.Mathlib.Omega.{arith}
use Rattle.print.proofs.WrittenLaws.{written_byte}
use Rattle.print.proofs.put_byte.Goals as goal

pub returns : goal.returns
returns g c = written_byte (omega arith) c.put_behind.ensures
