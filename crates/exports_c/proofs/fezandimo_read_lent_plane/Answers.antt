-- `exports_c::fezandimo_read_lent_plane` meets its contract.
use Rattle.exports_c.proofs.AnswerLaws.{end_told}
use Rattle.exports_c.proofs.fezandimo_read_lent_plane.Goals as goal

pub returns : goal.returns
returns c = let w = end_told _ _ c.from.result c.read_lent_plane-o.ensures.end c.from.ensures in record { answer = w.0; works = w.1.0; out = w.1.1 }
