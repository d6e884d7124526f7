-- Two small sheets and their rule numbers, by computation.
use Rattle.std.specs.Prelude.{Ok, Err}
use mathlib.Core.Path.{◌≡◌, refl}
use mathlib.Core.List.{List, [], ◌∷◌}
use Prim.Native.Nat.{ℕ}
use lib.ListN.{get_or}
use Rattle.model.specs.declared.Cell.TheVariants.{Region, VerticalOutputDoubleLine, HorizontalOutputDoubleLine, MainDoubleCrossing}
use Rattle.model.specs.declared.HitPolicy.TheVariants.{Unique}
use Rattle.model.specs.declared.Orientation.TheVariants.{RulesAsRows, RulesAsColumns}
use Rattle.model.specs.declared.Refusal.TheVariants.{InvalidRuleNumber}
use Rattle.plane.specs.hit_policies.Letters.{same_text, by_letters}
use Rattle.plane.specs.numerals.RuleNumbers.{digits, number_of}
use Rattle.cells.specs.Plane.{Plane}
use Rattle.plane.specs.rule_numbers.Numbering.{last, place_behind, counted, rule_numbers_of}
use Rattle.plane.specs.placement.Placement.{placement_of}
use Rattle.plane.specs.placement.Orientation.{holds_in, holds, oriented_of}

-- U, x, y, and a label
abbrev texts : List ℕ → ℕ → List ℕ
texts label k = get_or ((0x55 ∷ []) ∷ (0x78 ∷ []) ∷ (0x79 ∷ []) ∷ label ∷ []) k []

-- │ U │ x ║ y │
-- ╞═══╪═══╬═══╡
-- │ 1 │ x ║ y │
abbrev row_sheet : Plane
row_sheet =
    (Region 0 ∷ Region 1 ∷ VerticalOutputDoubleLine ∷ Region 2 ∷ [])
    ∷ (HorizontalOutputDoubleLine ∷ HorizontalOutputDoubleLine ∷ MainDoubleCrossing ∷ HorizontalOutputDoubleLine ∷ [])
    ∷ (Region 3 ∷ Region 1 ∷ VerticalOutputDoubleLine ∷ Region 2 ∷ [])
    ∷ []

-- │ x ║ x │
-- ╞═══╬═══╡
-- │ y ║ y │
-- ├───╫───┤
-- │ U ║ 1 │
abbrev column_sheet : Plane
column_sheet =
    (Region 1 ∷ VerticalOutputDoubleLine ∷ Region 1 ∷ [])
    ∷ (HorizontalOutputDoubleLine ∷ MainDoubleCrossing ∷ HorizontalOutputDoubleLine ∷ [])
    ∷ (Region 2 ∷ VerticalOutputDoubleLine ∷ Region 2 ∷ [])
    ∷ (Region 0 ∷ VerticalOutputDoubleLine ∷ Region 3 ∷ [])
    ∷ []

pub row-sheet : oriented_of (texts (0x31 ∷ [])) row_sheet ≡ Ok (record { orientation = RulesAsRows; policy = Unique; rules = 1 })
unfolding oriented_of placement_of rule_numbers_of place_behind counted last holds holds_in by_letters same_text number_of digits
row-sheet = refl

pub column-sheet : oriented_of (texts (0x31 ∷ [])) column_sheet ≡ Ok (record { orientation = RulesAsColumns; policy = Unique; rules = 1 })
unfolding oriented_of placement_of rule_numbers_of place_behind counted last holds holds_in by_letters same_text number_of digits
column-sheet = refl

-- "+1" is the number 1
pub plus_one_lem : oriented_of (texts (0x2B ∷ 0x31 ∷ [])) row_sheet ≡ Ok (record { orientation = RulesAsRows; policy = Unique; rules = 1 })
unfolding oriented_of placement_of rule_numbers_of place_behind counted last holds holds_in by_letters same_text number_of digits
plus_one_lem = refl

-- "0" is a number, and not the first
pub zero_first : oriented_of (texts (0x30 ∷ [])) row_sheet ≡ Err (InvalidRuleNumber 0)
unfolding oriented_of placement_of rule_numbers_of place_behind counted last holds holds_in by_letters same_text number_of digits
zero_first = refl

-- so is "5" in a column sheet
pub five_first : oriented_of (texts (0x35 ∷ [])) column_sheet ≡ Err (InvalidRuleNumber 5)
unfolding oriented_of placement_of rule_numbers_of place_behind counted last holds holds_in by_letters same_text number_of digits
five_first = refl
