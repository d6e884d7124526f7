-- The rule numbers of a plane: document 01, "Placement and upright sheet", and plane.rs of the Rust.
use Rattle.std.specs.Prelude.{List, [], ◌∷◌, map, ℕ, ◌+◌, eqb, ltb, drop, Option, None, Some, Ok, Err}
use Rattle.lists.specs.Answer.{◌>>=◌}
use Rattle.lists.specs.Choose.{choose, on_some}
use Rattle.model.specs.Cells.{region_of, same_kind}
use Rattle.model.specs.Refusals.{Reading}
use Rattle.model.specs.declared.Cell.{Cell}
use Rattle.model.specs.declared.Cell.TheVariants.{VerticalOutputDoubleLine, HorizontalOutputDoubleLine}
use Rattle.model.specs.declared.Refusal.TheVariants.{PlaneMalformed, InvalidRuleNumber}
use Rattle.model.specs.declared.RuleNumbersPlacement.{RuleNumbersPlacement}
use Rattle.model.specs.declared.RuleNumbersPlacement.TheVariants as numbers
use Rattle.plane.specs.numerals.RuleNumbers.{number_of}
use Rattle.cells.specs.Plane.{Plane}

-- the first of a list, if there is one
abbrev pub first : {A : Type 0} → List A → Option A
first [] = None
first (a ∷ s) = Some a

unfoldable pub last : {A : Type 0} → List A → Option A
last [] = None
last (a ∷ []) = Some a
last (a ∷ b ∷ s) = last (b ∷ s)

-- the place behind the first cell of a kind, counted from i; a cell that is missing is 10
unfoldable pub place_behind : Cell → ℕ → List (Option Cell) → Reading ℕ
place_behind k i [] = Err PlaneMalformed
place_behind k i (None ∷ line) = Err PlaneMalformed
place_behind k i (Some c ∷ line) = choose (same_kind k c) (Ok (i + 1)) (place_behind k (i + 1) line)

-- numbers right after, if there are any
abbrev pub right_of : Reading ℕ → Reading RuleNumbersPlacement
right_of m = do
  r ← m
  Ok (choose (ltb 0 r) (numbers.RightAfter r) numbers.NotPresent)

-- the text of each region, trimmed
module _ (text : ℕ → List ℕ) where
  abbrev pub number_in : Cell → Option ℕ
  number_in c = on_some (region_of c) (λ r. number_of (text r)) None

  -- the numbers n + 1, n + 2, .. up to a line's end: the last of them, or 0 where something else stands. 11 tells another number, and a
  -- cell that is missing is 10
  unfoldable pub counted : ℕ → List (Option Cell) → Reading ℕ
  counted n [] = Ok n
  counted n (None ∷ line) = Err PlaneMalformed
  counted n (Some c ∷ line) = on_some (number_in c) (λ m. choose (eqb m (n + 1)) (counted (n + 1) line) (Err (InvalidRuleNumber m))) (Ok 0)

  -- the numbers behind the first cell of a kind
  abbrev pub counted_behind : Cell → List (Option Cell) → Reading ℕ
  counted_behind k line = do
    p ← place_behind k 0 line
    counted 0 (drop p line)

  -- down column 0, below the double line
  abbrev pub numbers_left : Plane → Reading ℕ
  numbers_left P = counted_behind HorizontalOutputDoubleLine (map first P)

  -- along the last row, right of the double line
  abbrev pub numbers_right : Plane → Reading ℕ
  numbers_right P = counted_behind VerticalOutputDoubleLine (on_some (last P) (map Some) [])

  -- left below, or else right after
  unfoldable pub rule_numbers_of : Plane → Reading RuleNumbersPlacement
  rule_numbers_of P = do
    l ← numbers_left P
    choose (ltb 0 l) (Ok (numbers.LeftBelow l)) (right_of (numbers_right P))
