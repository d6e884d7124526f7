-- The regions of a line's cells are among those of a plane.
use Rattle.std.specs.Prelude.{Some}
use mathlib.Core.Path.{◌≡◌, refl, sym, ap, ◌∙◌}
use mathlib.Core.List.{List}
use Prim.Native.Nat.{ℕ, ◌≤◌, ◌<◌}
use native.Mathlib.Omega.{arith}
use lib.Dec.{ltb}
use lib.ListN.{get_or}
use borrow.Author.Tests.{ltb-true}
use Rattle.lists.proofs.Tests.{choose-some}
use Rattle.model.specs.Limits.{plane_rows}
use Rattle.model.specs.declared.Cell.{Cell}
use Rattle.model.specs.declared.Cell.TheVariants.{Region}
use Rattle.cells.specs.Held.{Held, Numbered}
use Rattle.cells.specs.Plane.{cell_at}
use Rattle.plane.specs.rule_numbers.Line.{slot_of, OnPlane}
use Rattle.plane.specs.rule_numbers.Told.{LineHeld}
use Rattle.plane.specs.declared.rule_numbers.Line.{Line}
use Rattle.plane.specs.declared.rule_numbers.Line.TheVariants.{FirstColumn, Row}

module _ {plane : List ℕ} {n : ℕ} {bytes spans : List ℕ} {count : ℕ} (p : Held plane n bytes spans count) where
  -- a cell of a plane
  pub cell_numbered : (row k : ℕ) (c : Cell) → row < n → Some c ≡ slot_of plane (Row row) k → Numbered count c
  cell_numbered row k c h e =
      let s = choose-some (ltb k (get_or plane row 0)) (cell_at plane row k) c (sym e) in
      λ r q. p.regions row k r h (ltb-true k (get_or plane row 0) s.0) (s.1 ∙ q)

  line-held : (line : Line) (w : ℕ) → OnPlane line → w ≤ plane_rows
      → ((k : ℕ) (c : Cell) → k < w → Some c ≡ slot_of plane line k → Numbered count c) → LineHeld plane line w count
  line-held line w r f g =
      record { room = r; few = f; regions = λ k q l e. g k (Region q) l (sym e) q refl }

  pub held-column : LineHeld plane FirstColumn n count
  held-column = line-held FirstColumn n tt p.fits.rows (λ k c l e. cell_numbered k 0 c l e)

  pub held-row : (row : ℕ) → row < n → LineHeld plane (Row row) (get_or plane row 0) count
  held-row row h = line-held (Row row) (get_or plane row 0) (omega (arith, p.fits.rows)) (p.fits.cells row h) (λ k c l e. cell_numbered row k c h e)

-- a cell of a line
pub line_numbered : {plane : List ℕ} {line : Line} {n count : ℕ} → LineHeld plane line n count
    → (k : ℕ) (c : Cell) → k < n → Some c ≡ slot_of plane line k → Numbered count c
line_numbered p k c l e = λ r q. p.regions k r l (sym e ∙ ap Some q)
