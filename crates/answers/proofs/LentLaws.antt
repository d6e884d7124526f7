-- From what a lent plane states to the lines that are printed.
use Rattle.std.specs.Prelude.{Ok, Err}
use mathlib.Core.List.{List}
use mathlib.Core.Path.{◌≡◌, sym, ap, subst, ◌∙◌}
use Prim.Native.Nat.{ℕ}
use Rattle.model.specs.Policies.{policy_number, orientation_number}
use Rattle.model.specs.Refusals.{numbers, Reading}
use Rattle.model.specs.declared.Refusal.{Refusal}
use Rattle.cells.specs.Plane.{Plane, plane_in, PlaneFits}
use Rattle.plane.specs.lent.LentPlane.{LentPlane}
use Rattle.plane.specs.LentSheet.{lent_sheet}
use Rattle.plane.specs.Stated.{stated_in, StatedHeld}
use Rattle.plane.specs.declared.Stated.{Stated}
use Rattle.print.specs.Lines.{refused_line}
use Rattle.answers.specs.plane_lines.Planes.{upright_lines}
use Rattle.answers.specs.LentLines.{sheet_printed, lent_lines}

-- the numbers of an upright sheet, by other names
pub upright_as : {a b c d : ℕ} (rules : ℕ) (P : Plane) → a ≡ c → b ≡ d → upright_lines a b rules P ≡ upright_lines c d rules P
upright_as rules P e f = rw (e, f)

-- a sheet that is stated, or not
module _ (l : LentPlane) (m : Reading Stated) (d : List ℕ) (e : stated_in m d ≡ lent_sheet l) where
  pub stated_lines : {s : Stated} → m ≡ Ok s
      → upright_lines (orientation_number s.orientation) (policy_number s.policy) s.rules (plane_in d s.rows) ≡ lent_lines l
  unfolding lent_lines
  stated_lines k = ap sheet_printed (sym (ap (λ (m : Reading Stated). stated_in m d) k) ∙ e)

  pub not_stated : {r : Refusal} → m ≡ Err r → refused_line (numbers r) ≡ lent_lines l
  unfolding lent_lines
  not_stated k = ap sheet_printed (sym (ap (λ (m : Reading Stated). stated_in m d) k) ∙ e)

pub stated_fits : (m : Reading Stated) (d bytes spans : List ℕ) (n : ℕ) {s : Stated} → StatedHeld m d bytes spans n → m ≡ Ok s → PlaneFits d s.rows
stated_fits m d bytes spans n {s} h k =
    let q : StatedHeld (Ok s) d bytes spans n = subst (λ (m : Reading Stated). StatedHeld m d bytes spans n) k h in
    q.fits
