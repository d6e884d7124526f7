-- What the output clauses of a sheet have: every refusal in its order.
use Rattle.std.specs.Prelude.{Bool, true, false, ℕ, eqb, Ok, Err}
use Rattle.lists.specs.Answer.{◌>>=◌, ◌>>◌}
use Rattle.lists.specs.Choose.{choose}
use Rattle.model.specs.Refusals.{Reading}
use Rattle.model.specs.declared.Refusal.TheVariants.{NoOutputClause, TooManyOutputRows}
use Rattle.cells.specs.Plane.{Plane}
use Rattle.clauses.specs.cell_tests.SheetCells.{column_is}
use Rattle.clauses.specs.passes.Passes.{fine, fine_row}
use Rattle.clauses.specs.declared.layouts.Layout.{Layout}

module _ (P : Plane) where
  -- what one output has under h clause rows
  unfoldable pub one_layout : ℕ → ℕ → Reading Layout
  one_layout x h =
      choose (eqb h 1) (do
        fine P 0 x
        Ok (record { labelled = true; named = false; valued = false }))
      (choose (eqb h 2) (do
        apart ← column_is false P 0 x
        Ok (record { labelled = apart; named = false; valued = true }))
      (Err TooManyOutputRows))

  -- component names in row 0 and, if valued, allowed values in row 1
  unfoldable pub named_layout : ℕ → ℕ → Bool → Reading Layout
  named_layout x m valued = do
    fine_row P 0 x m
    choose valued (fine_row P 1 x m) (Ok tt)
    Ok (record { labelled = false; named = true; valued = valued })

  -- a label in row 0, component names in row 1 and, if valued, allowed values in row 2
  unfoldable pub labelled_layout : ℕ → ℕ → Bool → Reading Layout
  labelled_layout x m valued = do
    fine P 0 x
    fine_row P 1 x m
    choose valued (fine_row P 2 x m) (Ok tt)
    Ok (record { labelled = true; named = true; valued = valued })

  -- what m outputs have
  unfoldable pub many_layout : ℕ → ℕ → ℕ → Bool → Reading Layout
  many_layout x m h allowed =
      choose (eqb h 1) (named_layout x m false)
      (choose (eqb h 2) (choose allowed (named_layout x m true) (labelled_layout x m false)) (labelled_layout x m true))

  unfoldable pub layout_of : ℕ → ℕ → ℕ → Bool → Reading Layout
  layout_of x m h allowed =
      choose (eqb m 0) (Err NoOutputClause) (choose (eqb m 1) (one_layout x h) (many_layout x m h allowed))
