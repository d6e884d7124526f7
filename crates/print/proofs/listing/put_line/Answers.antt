-- `print::listing::put_line` meets its contract.
use mathlib.Core.Path.{ap}
use Rattle.print.specs.Lines.{count_line}
use Rattle.print.proofs.WrittenLaws.{written_as}
use Rattle.print.proofs.listing.put_line.Goals as goal

pub returns : goal.returns
returns g c = written_as c.put_count.ensures (ap (count_line c.args.name.now) c.word_at.ensures)
