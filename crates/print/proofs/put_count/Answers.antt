-- `print::put_count` meets its contract.
use Rattle.print.specs.Lines.{count_line}
use Rattle.print.proofs.WrittenLaws.{written_one, written_then, written_within}
use native.Mathlib.Omega.{arith}
use Rattle.print.proofs.put_count.Goals as goal

pub returns : goal.returns
unfolding count_line
returns g c =
    written_within
    (written_then c.put_word.ensures (written_then c.put_number.ensures (written_one c.push.ensures.items)))
    (omega arith)
