-- `exports_c::fezandimo_read_sheet` meets its contract.
use Rattle.exports_c.proofs.AnswerLaws.{end_told}
use Rattle.exports_c.proofs.fezandimo_read_sheet.Goals as goal

pub returns : goal.returns
returns c = let w = end_told _ _ c.from.result c.read_sheet-o.ensures.end c.from.ensures in record { answer = w.0; works = w.1.0; out = w.1.1 }
