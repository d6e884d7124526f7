-- `reports::lent_reports::put_lent_plane` meets its contract.
use Rattle.plane.specs.lent.Lent.{lists_of}
use Rattle.plane.specs.lent.LentPlane.{LentPlane}
use Rattle.policies.specs.LentPolicy.{lent_policy}
use Rattle.print.proofs.WrittenLaws.{written_as}
use Rattle.builder.specs.lent_builder.LentEnd.{lent_sizes}
use Rattle.reports.specs.outcome_lines.PolicyLines.{record_bytes}
use Rattle.reports.proofs.outcome_lines.OutcomeLaws.{Reported, lent_printable, end_reported}
use native.Mathlib.Omega.{arith}
use borrow.Author.Rules.{rules}
use Rattle.reports.proofs.lent_reports.put_lent_plane.Goals as goal
use Rattle.reports.proofs.lent_reports.put_lent_plane.Given.{Over}
use Rattle.reports.proofs.lent_reports.put_lent_plane.Goals.{After-read_lent_plane-stated}

told : (g : Over) (c : After-read_lent_plane-stated g)
    → let a = c.args in
    let l : LentPlane = lists_of a.l in
    Reported (lent_policy l) record_bytes c.read_lent_plane-stated.result c.read_lent_plane-stated.new.out
told g c =
    let a = c.args in
    let l : LentPlane = lists_of a.l in
    end_reported lent_sizes (lent_policy l) _ _ _ _ _ record_bytes (lent_printable l) (search rules) (search rules) c.read_lent_plane-stated.ensures.end

pub put_outcome-requires : goal.put_outcome-requires
put_outcome-requires g c = (search arith, (omega (arith, c.requires), omega (arith, c.read_lent_plane-stated.auto.out), (told g (goal.at.put_outcome-requires g c).After-read_lent_plane-stated).sound))

pub returns : goal.returns
returns g c = written_as c.put_outcome.ensures (told g (goal.at.returns g c).After-read_lent_plane-stated).lines
