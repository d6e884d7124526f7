-- `scan::put_row` meets its contract.
use Rattle.characters.specs.white_space.Lines.{codes_at}
use Rattle.scan.proofs.RowPutting.{row_written, blanks_written}
use Rattle.scan.proofs.put_row.Goals as goal

pub returns : goal.returns
returns c =
    let a = c.args in
    let t = codes_at a.s.now a.row.from a.row.count in record { text = row_written a.text.now a.base t a.width a.row.count c.requires.0 c.requires.1 c.requires.2 c.put_codes.ensures c.put_same.ensures; body = blanks_written a.body.now a.base t a.width a.row.count c.requires.0 c.requires.1 c.requires.3 c.put_same-2.ensures c.put_same-3.ensures }
