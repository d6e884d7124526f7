-- The ways of reading a lent plane's sheet.
use Rattle.std.specs.Prelude.{Ok, Err}
use mathlib.Core.Path.{◌≡◌}
use mathlib.Core.List.{[]}
use lib.ListN.{get_or}
use Rattle.model.specs.Refusals.{Reading}
use Rattle.model.specs.declared.Refusal.{Refusal}
use Rattle.cells.specs.Plane.{TextPlane}
use Rattle.plane.specs.lent.LentPlane.{LentPlane, lent_of}
use Rattle.plane.specs.LentSheet.{lent_sheet}
use Rattle.plane.specs.Sheet.{Sheet, stated_sheet}

module _ (l : LentPlane) where
  pub not_lent : (r : Refusal) → Err r ≡ lent_of l → Err r ≡ lent_sheet l
  unfolding lent_sheet
  not_lent r e = rw (← e)

  pub lent_stated : (t : TextPlane) → Ok t ≡ lent_of l → (m : Reading Sheet) → m ≡ stated_sheet (λ k. get_or t.texts k []) t.plane → m ≡ lent_sheet l
  unfolding lent_sheet
  lent_stated t e m q = rw (← e) q
