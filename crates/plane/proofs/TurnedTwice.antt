-- Document 01: "Turned twice, every even plane with a cell in it is what it was".
use mathlib.Core.Path.{◌≡◌}
use Prim.Native.Nat.{◌<◌}
use Rattle.lists.specs.Transpose.{width, Even}
use Rattle.lists.proofs.TransposeLaws.{transpose-twice}
use Rattle.model.specs.Cells.{turned_cell}
use Rattle.model.specs.declared.Cell.TheVariants.{MainDoubleCrossing}
use Rattle.model.proofs.CellLaws as cell
use Rattle.cells.specs.Plane.{Plane}
use Rattle.cells.specs.turning.Upright.{turned}

pub turned-twice : (P : Plane) → Even P → 0 < width P → turned (turned P) ≡ P
turned-twice P even h = transpose-twice turned_cell turned_cell MainDoubleCrossing MainDoubleCrossing P cell.turned-twice even h
