-- `answers::plane_lines::put_cell` meets its contract.
use mathlib.Core.Path.{ap, ◌∙◌}
use mathlib.Core.List.{◌∷◌}
use Prim.Native.Nat.{ℕ}
use Rattle.model.specs.Cells.{cell_number}
use Rattle.print.specs.Decimal.{decimal}
use Rattle.print.proofs.WrittenLaws.{written_as}
use Rattle.answers.proofs.plane_lines.put_cell.Goals as goal

pub number-requires : goal.number-requires
number-requires g c = c.cell.ensures.small

pub returns : goal.returns
returns g c =
    written_as c.put_behind.ensures
    (ap (λ (m : ℕ). 0x20 ∷ decimal m) (c.number.ensures ∙ ap cell_number c.cell.ensures.cell))
