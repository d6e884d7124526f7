-- `answers::put_stated` meets its contract.
use Rattle.print.proofs.WrittenLaws.{written_as}
use Rattle.answers.proofs.LentLaws.{upright_as}
use Rattle.answers.proofs.put_stated.Goals as goal

pub returns : goal.returns
returns g c = written_as c.put_upright.ensures (upright_as _ _ c.from.ensures c.from-2.ensures)
