-- `scan::text_lines::is_box` meets its contract.
use borrow.Author.Tests.{eqb-true}
use borrow.Author.Rules.{rules}
use Rattle.scan.proofs.text_lines.SeenLaws.{box}
use Rattle.scan.proofs.text_lines.is_box.Goals as goal

pub returns : goal.returns
returns c e = let a = c.args in box a.s.now a.at (search rules) _ c.word.ensures (eqb-true _ _ e)
