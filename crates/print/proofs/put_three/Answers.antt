-- `print::put_three` meets its contract.
use Rattle.print.specs.Lines.{three_line}
use Rattle.print.proofs.WrittenLaws.{written_one, written_then, written_within}
use native.Mathlib.Omega.{arith}
use Rattle.print.proofs.put_three.Goals as goal

pub returns : goal.returns
unfolding three_line
returns g c =
    written_within
    (written_then c.put_word.ensures
    (written_then c.put_number.ensures
    (written_then c.put_behind.ensures (written_then c.put_behind-2.ensures (written_one c.push.ensures.items)))))
    (omega arith)
