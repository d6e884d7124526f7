-- `print::listing::is_absent` meets its contract.
use borrow.Author.Tests.{eq-eqb, ne_eqb}
use Rattle.print.proofs.listing.is_absent.Goals as goal

pub returns-then-offset-eq0 : goal.returns-then-offset-eq0
returns-then-offset-eq0 c = rw (eq-eqb _ _ c.if-offset-eq0.true)

pub returns-else-offset-eq0 : goal.returns-else-offset-eq0
returns-else-offset-eq0 c = rw (ne_eqb _ _ c.if-offset-eq0.false)
