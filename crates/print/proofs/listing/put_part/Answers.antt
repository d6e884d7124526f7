-- `print::listing::put_part` meets its contract.
use Rattle.print.proofs.WrittenLaws.{written_one, written_then, written_within}
use Rattle.print.specs.listing.RecordLines.{part_words}
use Rattle.print.proofs.listing.LineLaws.{written_part}
use native.Mathlib.Omega.{arith}
use Rattle.print.proofs.listing.put_part.Goals as goal

pub returns : goal.returns
unfolding part_words
returns g c =
    let part = written_part c.args.bytes.now c.args.offset c.args.size c.requires.1 c.put_word.ensures in
    written_within
    (written_then c.put_behind.ensures
    (written_then c.put_behind-2.ensures
    (written_then (written_one c.push.ensures.items) (written_then part (written_one c.push-2.ensures.items)))))
    (omega arith)
