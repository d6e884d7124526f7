-- `answers::sketch::put_spaced` meets its contract.
use Rattle.print.proofs.WrittenLaws.{written_one, written_then, written_long}
use native.Mathlib.Omega.{arith}
use Rattle.answers.proofs.sketch.put_spaced.Goals as goal

pub push-requires : goal.push-requires
push-requires g c = omega (arith, c.requires, written_long c.put_number.ensures)

pub returns : goal.returns
returns g c = written_then c.put_number.ensures (written_one c.push.ensures.items)
