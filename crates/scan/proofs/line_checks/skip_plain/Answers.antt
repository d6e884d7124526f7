-- `scan::line_checks::skip_plain` meets its contract.
use Rattle.scan.proofs.line_checks.PlainLaws.{plain-none}
use borrow.Author.Rules.{rules}
use Rattle.scan.proofs.line_checks.skip_plain.Goals as goal

pub loop-p-init : goal.loop-p-init
loop-p-init c = (search rules, search rules, plain-none _ _)

pub returns : goal.returns
returns c = c.loop-p.invariant
