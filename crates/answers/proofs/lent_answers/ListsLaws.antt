-- The lists of a lent plane, widened, and what is asked of them.
use mathlib.Core.List.{List}
use mathlib.Core.Path.{◌≡◌, refl}
use Prim.Native.Nat.{ℕ}
use Rattle.plane.specs.lent.LentPlane.{LentPlane}
use Rattle.policies.specs.LentPolicy.{lent_policy}
use Rattle.reports.specs.outcome_lines.PolicyLines.{record_bytes, policy_lines}
use Rattle.answers.specs.LentLines.{lent_lines}
use Rattle.answers.specs.lent_lists.Lists.{lent_of}
use Rattle.answers.specs.declared.lent_lists.six_lists.Lists.{Lists}
use Rattle.answers.specs.lent_answers.Lines.{lines_by}
use Rattle.answers.specs.declared.lent_answers.Asked.{Asked}
use Rattle.answers.specs.declared.lent_answers.Asked.TheVariants.{Upright, Record}

-- what asks for the record, and what asks for the upright sheet
pub record_asked : (l : LentPlane) {asked : Asked} → asked ≡ Record → policy_lines record_bytes (lent_policy l) ≡ lines_by asked l
record_asked l e = rw e refl

pub upright_asked : (l : LentPlane) {asked : Asked} → asked ≡ Upright → lent_lines l ≡ lines_by asked l
upright_asked l e = rw e refl

-- four lists in vectors of their own
pub lent_as_lem : (asked : Asked) (l : Lists) (rows regions offsets sizes : List ℕ) → rows ≡ l.rows.now → regions ≡ l.regions.now → offsets ≡ l.offsets.now → sizes ≡ l.sizes.now
    → lines_by asked (record { rows = rows; kinds = l.kinds.now; regions = regions; offsets = offsets; sizes = sizes; bytes = l.bytes.now }) ≡ lines_by asked (lent_of l)
lent_as_lem asked l rows regions offsets sizes a b c d = rw (a, b, c, d) refl
