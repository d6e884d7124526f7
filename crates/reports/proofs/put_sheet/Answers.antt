-- `reports::put_sheet` meets its contract.
use Rattle.policies.specs.DrawnPolicy.{walked_policy}
use Rattle.print.proofs.WrittenLaws.{written_as}
use Rattle.builder.specs.SheetEnd.{sheet_sizes}
use Rattle.reports.specs.outcome_lines.PolicyLines.{record_bytes}
use Rattle.reports.proofs.outcome_lines.OutcomeLaws.{Reported, drawn_printable, end_reported}
use native.Mathlib.Omega.{arith}
use borrow.Author.Rules.{rules}
use Rattle.reports.proofs.put_sheet.Goals as goal
use Rattle.reports.proofs.put_sheet.Given.{Over}
use Rattle.reports.proofs.put_sheet.Goals.{After-read_sheet-drawn}

told : (g : Over) (c : After-read_sheet-drawn g) → Reported (walked_policy c.args.s.now) record_bytes c.read_sheet-drawn.result c.read_sheet-drawn.new.out
told g c = end_reported sheet_sizes (walked_policy c.args.s.now) _ _ _ _ _ record_bytes (drawn_printable c.args.s.now) (search rules) (search rules) c.read_sheet-drawn.ensures.end

pub put_outcome-requires : goal.put_outcome-requires
put_outcome-requires g c = (search arith, (omega (arith, c.requires), omega (arith, c.read_sheet-drawn.auto.out), (told g (goal.at.put_outcome-requires g c).After-read_sheet-drawn).sound))

pub returns : goal.returns
returns g c = written_as c.put_outcome.ensures (told g (goal.at.returns g c).After-read_sheet-drawn).lines
