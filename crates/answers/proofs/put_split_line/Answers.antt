-- `answers::put_split_line` meets its contract.
use mathlib.Core.Path.{ap}
use Rattle.answers.specs.SplitLines.{printed, split_line}
use Rattle.print.proofs.WrittenLaws.{written_as}
use Rattle.answers.proofs.put_split_line.Goals as goal

pub returns : goal.returns
unfolding split_line
returns g c = written_as c.put_split.ensures (ap printed c.split_values-s.ensures.answer)
