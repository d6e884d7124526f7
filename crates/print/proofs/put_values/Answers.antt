-- `print::put_values` meets its contract.
use Rattle.print.specs.Lines.{values_line}
use Rattle.print.proofs.WrittenLaws.{written_one, written_then, written_within}
use native.Mathlib.Omega.{arith}
use Rattle.print.proofs.put_values.Goals as goal

pub returns : goal.returns
unfolding values_line
returns g c =
    written_within
    (written_then c.put_word.ensures
    (written_then c.put_listed.ensures
    (written_then c.put_word-2.ensures (written_then c.put_listed-2.ensures (written_one c.push.ensures.items)))))
    (omega arith)
