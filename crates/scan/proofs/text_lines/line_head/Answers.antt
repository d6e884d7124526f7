-- `scan::text_lines::line_head` meets its contract.
use mathlib.Core.Path.{ap, ◌∙◌}
use Rattle.scan.specs.text_lines.LineScan.{head_of}
use Rattle.scan.proofs.text_lines.LineReading.{head_of_lem, valid_of}
use Rattle.scan.proofs.text_lines.SeenLaws.{head_first}
use Rattle.scan.proofs.text_lines.line_head.Goals as goal

pub returns : goal.returns
returns c =
    let k = c.skip_white-from.ensures in
    let e = c.line_end-end.ensures in
    record { head = head_of_lem k.0 k.1 k.2 e.next (c.first_of-first.ensures ∙ ap head_of c.next.ensures ∙ head_first _); valid = valid_of k.3 e.valid }
