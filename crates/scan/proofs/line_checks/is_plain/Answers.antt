-- `scan::line_checks::is_plain` meets its contract.
use borrow.Author.Tests.{leb-true}
use Rattle.lists.proofs.Tests.{both}
use Rattle.scan.proofs.line_checks.is_plain.Goals as goal

pub returns : goal.returns
returns c e = let t = both _ _ e in (leb-true _ _ t.0, leb-true _ _ t.1)
