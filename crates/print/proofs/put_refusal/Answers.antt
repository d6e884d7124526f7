-- `print::put_refusal` meets its contract.
use mathlib.Core.Path.{ap}
use Rattle.print.specs.Lines.{refused_line}
use Rattle.print.proofs.WrittenLaws.{written_as, written_within}
use native.Mathlib.Omega.{arith}
use Rattle.print.proofs.put_refusal.Goals as goal

pub returns : goal.returns
returns g c =
    written_within (written_as c.put_three.ensures (ap refused_line c.from-x.ensures)) (omega arith)
