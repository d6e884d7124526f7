-- Example: a plane as the judge prints it.
use mathlib.Core.List.{[], ◌∷◌, ◌++◌}
use mathlib.Core.Path.{◌≡◌, refl}
use Rattle.model.specs.declared.Cell.TheVariants.{Region, VerticalOutputDoubleLine}
use Rattle.print.specs.Decimal.{width_by, spaced, listed}
use Rattle.print.specs.Lines.{line_feed, count_line}
use Rattle.answers.specs.plane_lines.Planes.{plane_word, cells_line, cells_lines, plane_lines}

-- plane 1, and the row 2 8 1
one_row : plane_lines ((Region 1 ∷ VerticalOutputDoubleLine ∷ []) ∷ []) ≡ plane_word ++ (0x31 ∷ line_feed ∷ 0x32 ∷ 0x20 ∷ 0x38 ∷ 0x20 ∷ 0x31 ∷ line_feed ∷ [])
unfolding plane_lines count_line cells_lines cells_line listed spaced width_by
one_row = refl
