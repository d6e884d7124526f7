-- The orientation of a plane: `recognize_orientation` of the Rust.
use Rattle.std.specs.Prelude.{Bool, true, false, ◌||◌, List, [], ◌∷◌, ℕ, Ok, Err}
use Rattle.lists.specs.Answer.{◌>>=◌}
use Rattle.model.specs.Cells.{same_kind}
use Rattle.model.specs.Refusals.{Reading}
use Rattle.model.specs.declared.Cell.{Cell}
use Rattle.model.specs.declared.Cell.TheVariants.{HorizontalDoubleCrossing, VerticalDoubleCrossing}
use Rattle.model.specs.declared.HitPolicy.{HitPolicy}
use Rattle.model.specs.declared.HitPolicyPlacement.{HitPolicyPlacement}
use Rattle.model.specs.declared.HitPolicyPlacement.TheVariants.{TopLeft, BottomLeft, NotPresent}
use Rattle.model.specs.declared.Orientation.TheVariants.{RulesAsRows, RulesAsColumns}
use Rattle.model.specs.declared.Refusal.TheVariants.{ExpectedLeftBelow, ExpectedTopLeft, ExpectedRightAfter, ExpectedBottomLeft, ExpectedNoRuleNumbers, CrossTab}
use Rattle.model.specs.declared.RuleNumbersPlacement.{RuleNumbersPlacement}
use Rattle.model.specs.declared.RuleNumbersPlacement.TheVariants as numbers
use Rattle.cells.specs.Plane.{Plane}
use Rattle.plane.specs.rule_numbers.Numbering.{rule_numbers_of}
use Rattle.plane.specs.placement.Placement.{placement_of}
use Rattle.plane.specs.declared.placement.Oriented.{Oriented}

-- a cell of a kind stands in a plane
unfoldable pub holds_in : Cell → List Cell → Bool
holds_in k [] = false
holds_in k (c ∷ r) = same_kind k c || holds_in k r

unfoldable pub holds : Cell → Plane → Bool
holds k [] = false
holds k (r ∷ P) = holds_in k r || holds k P

-- a row sheet has its numbers left below (12)
abbrev pub as_rows : HitPolicy → RuleNumbersPlacement → Reading Oriented
as_rows h (numbers.LeftBelow n) = Ok (record { orientation = RulesAsRows; policy = h; rules = n })
as_rows h (numbers.RightAfter n) = Err ExpectedLeftBelow
as_rows h numbers.NotPresent = Err ExpectedLeftBelow

-- a column sheet has them right after (14)
abbrev pub as_columns : HitPolicy → RuleNumbersPlacement → Reading Oriented
as_columns h (numbers.LeftBelow n) = Err ExpectedRightAfter
as_columns h (numbers.RightAfter n) = Ok (record { orientation = RulesAsColumns; policy = h; rules = n })
as_columns h numbers.NotPresent = Err ExpectedRightAfter

-- a sheet without a policy has no numbers (16), and is a crosstab sheet, which is not read (17)
abbrev pub as_cross_tab : RuleNumbersPlacement → Reading Oriented
as_cross_tab (numbers.LeftBelow n) = Err ExpectedNoRuleNumbers
as_cross_tab (numbers.RightAfter n) = Err ExpectedNoRuleNumbers
as_cross_tab numbers.NotPresent = Err CrossTab

-- with a horizontal crossing it is a row sheet (13); else with a vertical one a column sheet (15); else the policy's place decides
abbrev pub oriented_by : Bool → Bool → HitPolicyPlacement → RuleNumbersPlacement → Reading Oriented
oriented_by true v (TopLeft h) n = as_rows h n
oriented_by true v (BottomLeft h) n = Err ExpectedTopLeft
oriented_by true v NotPresent n = Err ExpectedTopLeft
oriented_by false true (TopLeft h) n = Err ExpectedBottomLeft
oriented_by false true (BottomLeft h) n = as_columns h n
oriented_by false true NotPresent n = Err ExpectedBottomLeft
oriented_by false false (TopLeft h) n = as_rows h n
oriented_by false false (BottomLeft h) n = as_columns h n
oriented_by false false NotPresent n = as_cross_tab n

-- the texts of the regions, trimmed; a plane
unfoldable pub oriented_of : (ℕ → List ℕ) → Plane → Reading Oriented
oriented_of text P = do
  p ← placement_of text P
  n ← rule_numbers_of text P
  oriented_by (holds HorizontalDoubleCrossing P) (holds VerticalDoubleCrossing P) p n
