-- The lines that the judge prints for a lent plane.
use Rattle.std.specs.Prelude.{List, ℕ, Ok, Err}
use Rattle.model.specs.Policies.{policy_number, orientation_number}
use Rattle.model.specs.Refusals.{Reading, numbers}
use Rattle.plane.specs.lent.LentPlane.{LentPlane}
use Rattle.plane.specs.LentSheet.{lent_sheet}
use Rattle.plane.specs.Sheet.{Sheet}
use Rattle.print.specs.Lines.{refused_line}
use Rattle.answers.specs.plane_lines.Planes.{upright_lines}

-- the upright sheet, or why there is none
abbrev pub sheet_printed : Reading Sheet → List ℕ
sheet_printed (Ok s) = upright_lines (orientation_number s.orientation) (policy_number s.policy) s.rules s.plane
sheet_printed (Err r) = refused_line (numbers r)

-- the lines for a lent plane
unfoldable pub lent_lines : LentPlane → List ℕ
lent_lines l = sheet_printed (lent_sheet l)
