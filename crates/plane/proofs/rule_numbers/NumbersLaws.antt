-- Rule numbers: down column 0, or along the last row.
use Rattle.std.specs.Prelude.{Ok, Err, Option, Some}
use mathlib.Core.Path.{◌≡◌, sym, ap, ◌∙◌}
use mathlib.Core.List.{List, [], map}
use Prim.Native.Nat.{ℕ, ◌-◌, ◌<◌}
use lib.Dec.{ltb}
use lib.ListN.{get_or}
use Rattle.lists.specs.Choose.{choose, on_some}
use Rattle.model.specs.declared.Cell.{Cell}
use Rattle.model.specs.declared.Cell.TheVariants.{VerticalOutputDoubleLine, HorizontalOutputDoubleLine}
use Rattle.model.specs.declared.Refusal.{Refusal}
use Rattle.model.specs.declared.RuleNumbersPlacement.TheVariants.{LeftBelow, RightAfter, NotPresent}
use Rattle.cells.specs.Plane.{plane_in}
use Rattle.plane.specs.rule_numbers.Numbering.{counted_behind, numbers_left, numbers_right, right_of, rule_numbers_of}
use Rattle.plane.specs.rule_numbers.Line.{line_of}
use Rattle.plane.proofs.rule_numbers.LineLaws.{last_row, row_line, column-line}
use Rattle.plane.specs.declared.rule_numbers.Line.TheVariants.{FirstColumn, Row}

module _ (text : ℕ → List ℕ) (d : List ℕ) (n : ℕ) where
  left-line : numbers_left text (plane_in d n) ≡ counted_behind text HorizontalOutputDoubleLine (line_of d FirstColumn n)
  left-line = ap (counted_behind text HorizontalOutputDoubleLine) (column-line d n)

  pub left-told : (m : ℕ) → Ok m ≡ counted_behind text HorizontalOutputDoubleLine (line_of d FirstColumn n)
      → choose (ltb 0 m) (Ok (LeftBelow m)) (right_of (numbers_right text (plane_in d n))) ≡ rule_numbers_of text (plane_in d n)
  unfolding rule_numbers_of
  left-told m e = rw (left-line, sym e)

  pub left-refused : (r : Refusal) → Err r ≡ counted_behind text HorizontalOutputDoubleLine (line_of d FirstColumn n) → Err r ≡ rule_numbers_of text (plane_in d n)
  unfolding rule_numbers_of
  left-refused r e = rw (left-line, sym e)

  module _ (h : 0 < n) where
    right-line : numbers_right text (plane_in d n) ≡ counted_behind text VerticalOutputDoubleLine (line_of d (Row (n - 1)) (get_or d (n - 1) 0))
    right-line =
        ap (λ (o : Option (List Cell)). counted_behind text VerticalOutputDoubleLine (on_some o (map Some) [])) (last_row d n h)
        ∙ ap (counted_behind text VerticalOutputDoubleLine) (row_line d (n - 1))

    pub right-told : (m : ℕ) → Ok m ≡ counted_behind text VerticalOutputDoubleLine (line_of d (Row (n - 1)) (get_or d (n - 1) 0))
        → Ok (choose (ltb 0 m) (RightAfter m) NotPresent) ≡ right_of (numbers_right text (plane_in d n))
    right-told m e = rw (right-line, sym e)

    pub right-refused : (r : Refusal) → Err r ≡ counted_behind text VerticalOutputDoubleLine (line_of d (Row (n - 1)) (get_or d (n - 1) 0))
        → Err r ≡ right_of (numbers_right text (plane_in d n))
    right-refused r e = rw (right-line, sym e)
