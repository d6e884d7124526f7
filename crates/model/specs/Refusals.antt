-- Refused sheets: the table of document 01. Each case of `Refusal` has its number N and its values A, B; unlisted values are 0.
use Rattle.std.specs.Prelude.{ℕ, Result}
use Rattle.model.specs.declared.Refusal.{Refusal}
use Rattle.model.specs.declared.Refusal.TheVariants.{InvalidUtf8, CanvasTooLarge, CharactersNotFound, CharacterNotAllowed, RectangleNotClosed, RegionNotFound, OverLimit, PlaneEmpty, NoMainCrossing, PlaneMalformed, InvalidRuleNumber, ExpectedLeftBelow, ExpectedTopLeft, ExpectedRightAfter, ExpectedBottomLeft, ExpectedNoRuleNumbers, CrossTab, CellOutOfRange, CellNotRegion, ClauseRows, InvalidInputExpressions, InvalidOutputExpressions, NoOutputClause, TooManyOutputRows, InvalidSize, LentPlaneMalformed, OutputSliceShort, WorkSliceShort}
use Rattle.model.specs.declared.Numbers.{Numbers}

-- what may be refused
abbrev pub Reading : Type 0 → Type 0
Reading A = Result A Refusal

abbrev refuse : ℕ → ℕ → ℕ → Numbers
refuse n a b = record { n = n; a = a; b = b }

-- N, A and B
abbrev pub numbers : Refusal → Numbers
numbers (InvalidUtf8 index) = refuse 1 index 0
numbers (CanvasTooLarge rows columns) = refuse 2 rows columns
numbers (CharactersNotFound wanted) = refuse 3 wanted 0
numbers (CharacterNotAllowed found) = refuse 4 found 0
numbers (RectangleNotClosed column row) = refuse 5 column row
numbers (RegionNotFound left top) = refuse 6 left top
numbers OverLimit = refuse 7 0 0
numbers PlaneEmpty = refuse 8 0 0
numbers NoMainCrossing = refuse 9 0 0
numbers PlaneMalformed = refuse 10 0 0
numbers (InvalidRuleNumber number) = refuse 11 number 0
numbers ExpectedLeftBelow = refuse 12 0 0
numbers ExpectedTopLeft = refuse 13 0 0
numbers ExpectedRightAfter = refuse 14 0 0
numbers ExpectedBottomLeft = refuse 15 0 0
numbers ExpectedNoRuleNumbers = refuse 16 0 0
numbers CrossTab = refuse 17 0 0
numbers (CellOutOfRange row column) = refuse 18 row column
numbers (CellNotRegion row column) = refuse 19 row column
numbers (ClauseRows rows) = refuse 20 rows 0
numbers InvalidInputExpressions = refuse 21 0 0
numbers InvalidOutputExpressions = refuse 22 0 0
numbers NoOutputClause = refuse 23 0 0
numbers TooManyOutputRows = refuse 24 0 0
numbers (InvalidSize check) = refuse 25 check 0
numbers LentPlaneMalformed = refuse 26 0 0
numbers (OutputSliceShort bytes) = refuse 27 bytes 0
numbers (WorkSliceShort slice length) = refuse 28 slice length
