-- Whether there are allowed values: document 01, "The policy that a drawing states", and `recognize_horizontal_table` of the Rust.
-- The order of the lines is the order in which cells are read and sheets are refused.
use Rattle.std.specs.Prelude.{Bool, true, false, not, ℕ, ◌+◌, eqb, ltb, Ok, Err}
use Rattle.lists.specs.Answer.{◌>>=◌, ◌>>◌}
use Rattle.lists.specs.Choose.{choose}
use Rattle.model.specs.Refusals.{Reading}
use Rattle.model.specs.declared.Refusal.TheVariants.{ClauseRows, InvalidInputExpressions, InvalidOutputExpressions}
use Rattle.cells.specs.Plane.{Plane}
use Rattle.clauses.specs.cell_tests.Readings.{refuse}
use Rattle.clauses.specs.cell_tests.SheetCells.{columns_are}
use Rattle.clauses.specs.allowed.Apart.{all_apart}

-- the five facts for two clause rows: the inputs' cells are joined, there are inputs, there are several outputs, the outputs' cells
-- are joined, the outputs' cells are all apart
abbrev pub allowed_by : Bool → Bool → Bool → Bool → Bool → Bool
allowed_by false inputs several joined apart = true
allowed_by true false true true apart = true
allowed_by true false true false apart = apart
allowed_by true false false joined apart = false
allowed_by true true several joined apart = false

-- whether n inputs and m outputs have allowed values, with two clause rows: all three are read whatever the others say
unfoldable pub allowed_two : Plane → ℕ → ℕ → Reading Bool
allowed_two P n m = do
  inputs ← columns_are true P 0 0 n
  outputs ← columns_are true P 0 (n + 1) m
  apart ← all_apart P 2 (n + 1) m
  Ok (allowed_by inputs (ltb 0 n) (ltb 1 m) outputs apart)

-- with three: expressions and allowed values stand apart, else 21 or 22
unfoldable pub allowed_three : Plane → ℕ → ℕ → Reading Bool
allowed_three P n m = do
  inputs ← columns_are false P 1 0 n
  refuse (not inputs) InvalidInputExpressions
  outputs ← columns_are false P 1 (n + 1) m
  refuse (not outputs) InvalidOutputExpressions
  Ok true

-- with one there are none; 20 with any other count
unfoldable pub allowed_of : Plane → ℕ → ℕ → ℕ → Reading Bool
allowed_of P n m h =
    choose (eqb h 1) (Ok false) (choose (eqb h 2) (allowed_two P n m) (choose (eqb h 3) (allowed_three P n m) (Err (ClauseRows h))))
