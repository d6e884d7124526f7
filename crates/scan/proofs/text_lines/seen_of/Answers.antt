-- `scan::text_lines::seen_of` meets its contract.
use mathlib.Core.Path.{sym, ap, ◌∙◌}
use borrow.Author.Tests.{eq-eqb}
use Rattle.scan.specs.text_lines.LineScan.{seen_of}
use Rattle.scan.proofs.text_lines.SeenLaws.{of_feed}
use Rattle.scan.proofs.text_lines.seen_of.Goals as goal

pub returns-then-c-eq10 : goal.returns-then-c-eq10
returns-then-c-eq10 c = sym (ap seen_of c.in-Char.is ∙ of_feed _ _ (sym c.white_space.ensures ∙ c.if-not-white_space.false) (eq-eqb _ _ c.if-c-eq10.true))

pub returns-in-IllFormed : goal.returns-in-IllFormed
returns-in-IllFormed c = sym (ap seen_of c.in-IllFormed.is)

pub returns-in-End : goal.returns-in-End
returns-in-End c = sym (ap seen_of c.in-End.is)
