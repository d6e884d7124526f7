-- `scan::text_lines::line_at` meets its contract.
use Rattle.scan.proofs.text_lines.LineReading.{line_of, valid_of}
use Rattle.scan.proofs.text_lines.line_at.Goals as goal

pub returns : goal.returns
returns c =
    let k = c.skip_white-from.ensures in
    let r = c.line_rest-rest.ensures in
    record { line = line_of k.0 k.1 k.2 r.rest; valid = valid_of k.3 r.valid }
