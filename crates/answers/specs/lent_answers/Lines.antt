-- The lines that answer a lent plane.
use Rattle.std.specs.Prelude.{List, ℕ}
use Rattle.plane.specs.lent.LentPlane.{LentPlane}
use Rattle.policies.specs.LentPolicy.{lent_policy}
use Rattle.answers.specs.LentLines.{lent_lines}
use Rattle.reports.specs.outcome_lines.PolicyLines.{record_bytes, policy_lines}
use Rattle.answers.specs.declared.lent_answers.Asked.{Asked}
use Rattle.answers.specs.declared.lent_answers.Asked.TheVariants.{Upright, Record}

-- those of its upright sheet, or those of its table's record
abbrev pub lines_by : Asked → LentPlane → List ℕ
lines_by Upright l = lent_lines l
lines_by Record l = policy_lines record_bytes (lent_policy l)
