-- `print::listing::put_head` meets its contract.
use Rattle.print.specs.listing.RecordLines.{head_lines}
use Rattle.print.proofs.listing.LineLaws.{written_four}
use Rattle.print.proofs.listing.put_head.Goals as goal

pub returns : goal.returns
unfolding head_lines
returns g c =
    written_four c.put_line.ensures c.put_line-2.ensures c.put_line-3.ensures c.put_counts.ensures
