-- `scan::text_lines::seen_wide` meets its contract.
use mathlib.Core.Path.{ap, ◌∙◌}
use Rattle.scan.specs.text_lines.LineScan.{seen_of}
use Rattle.scan.proofs.text_lines.seen_wide.Goals as goal

pub returns : goal.returns
returns c = c.seen_of.ensures ∙ ap seen_of c.next.ensures
