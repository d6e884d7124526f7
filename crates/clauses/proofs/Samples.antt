-- Upright sheets by example, by computation: the text of region r is r, but that of one region is empty.
use Rattle.std.specs.Prelude.{Ok, Err, None, Some}
use mathlib.Core.List.{List, [], ◌∷◌}
use mathlib.Core.Path.{◌≡◌, refl}
use Prim.Native.Nat.{ℕ}
use lib.Dec.{eqb}
use Rattle.lists.specs.Answer.{◌>>=◌}
use Rattle.lists.specs.Choose.{choose}
use Rattle.lists.specs.OneOf.{one_of}
use Rattle.lists.specs.Run.{run}
use Rattle.model.specs.Refusals.{Reading}
use Rattle.model.specs.declared.Cell.TheVariants.{Region, VerticalOutputDoubleLine, HorizontalOutputDoubleLine, MainDoubleCrossing}
use Rattle.model.specs.declared.Refusal.TheVariants.{InvalidSize, TooManyOutputRows}
use Rattle.cells.specs.Plane.{Plane}
use Rattle.record.specs.Policy.{Text}
use Rattle.record.specs.Record.{input_texts, output_texts, rule_texts}
use Rattle.clauses.specs.cell_tests.Readings.{every}
use Rattle.clauses.specs.cell_tests.SheetCells.{region_at, column_is}
use Rattle.clauses.specs.allowed.Apart.{meet_row, apart_from}
use Rattle.clauses.specs.allowed.Allowed.{allowed_two, allowed_three, allowed_of}
use Rattle.clauses.specs.Readings.{along}
use Rattle.cells.specs.Places.{place_in_row, place_from}
use Rattle.clauses.specs.Clauses.{text_at, optional_at, entries_of, one_output, many_outputs, outputs_of, notes_of, found_from}
use Rattle.clauses.specs.Sizes.{uneven, sized}
use Rattle.clauses.specs.Stated.{stated_by, clauses_of, clause_texts}

-- the texts that are read, where the region `empty` has an empty one
unfoldable pub read : ℕ → Plane → ℕ → Reading (List Text)
unfolding run along every one_of region_at column_is meet_row apart_from place_in_row place_from allowed_two allowed_three allowed_of text_at optional_at entries_of one_output many_outputs outputs_of notes_of found_from uneven sized stated_by clauses_of clause_texts input_texts output_texts rule_texts
read empty P rules = ◌>>=◌ (clauses_of (λ r. choose (eqb r empty) [] (r ∷ [])) P rules) (λ c. Ok (clause_texts c))

-- one input, one output, one rule
abbrev zone : Plane
zone =
    (Region 1 ∷ VerticalOutputDoubleLine ∷ Region 2 ∷ [])
    ∷ (HorizontalOutputDoubleLine ∷ MainDoubleCrossing ∷ HorizontalOutputDoubleLine ∷ [])
    ∷ (Region 4 ∷ VerticalOutputDoubleLine ∷ Region 5 ∷ [])
    ∷ []

-- label; expression, allowed values; component name, allowed values, default; entries
pub zone_1 : read 0 zone 1 ≡ Ok (Some (2 ∷ []) ∷ Some (1 ∷ []) ∷ None ∷ Some (2 ∷ []) ∷ None ∷ None ∷ Some (4 ∷ []) ∷ Some (5 ∷ []) ∷ [])
unfolding read
zone_1 = refl

-- an empty label is absent
pub empty_label : read 2 zone 1 ≡ Ok (None ∷ Some (1 ∷ []) ∷ None ∷ None ∷ None ∷ None ∷ Some (4 ∷ []) ∷ Some (5 ∷ []) ∷ [])
unfolding read
empty_label = refl

-- an empty input entry is present
pub empty_entry : read 4 zone 1 ≡ Ok (Some (2 ∷ []) ∷ Some (1 ∷ []) ∷ None ∷ Some (2 ∷ []) ∷ None ∷ None ∷ Some [] ∷ Some (5 ∷ []) ∷ [])
unfolding read
empty_entry = refl

-- two rule numbers, one rule
pub zone_2 : read 0 zone 2 ≡ Err (InvalidSize 8)
unfolding read
zone_2 = refl

-- two clause rows, joined inputs, the output boxes all apart: the first box is the label
abbrev apart : Plane
apart =
    (Region 1 ∷ VerticalOutputDoubleLine ∷ Region 2 ∷ Region 3 ∷ [])
    ∷ (Region 1 ∷ VerticalOutputDoubleLine ∷ Region 4 ∷ Region 5 ∷ [])
    ∷ (HorizontalOutputDoubleLine ∷ MainDoubleCrossing ∷ HorizontalOutputDoubleLine ∷ HorizontalOutputDoubleLine ∷ [])
    ∷ (Region 6 ∷ VerticalOutputDoubleLine ∷ Region 7 ∷ Region 8 ∷ [])
    ∷ []

pub apart_label : read 0 apart 1
    ≡ Ok (Some (2 ∷ []) ∷ Some (1 ∷ []) ∷ None ∷ Some (4 ∷ []) ∷ None ∷ None ∷ Some (5 ∷ []) ∷ None ∷ None ∷ Some (6 ∷ []) ∷ Some (7 ∷ []) ∷ Some (8 ∷ []) ∷ [])
unfolding read
apart_label = refl

-- one output under three clause rows
abbrev three : Plane
three =
    (Region 1 ∷ VerticalOutputDoubleLine ∷ Region 2 ∷ [])
    ∷ (Region 3 ∷ VerticalOutputDoubleLine ∷ Region 4 ∷ [])
    ∷ (Region 5 ∷ VerticalOutputDoubleLine ∷ Region 6 ∷ [])
    ∷ (HorizontalOutputDoubleLine ∷ MainDoubleCrossing ∷ HorizontalOutputDoubleLine ∷ [])
    ∷ (Region 7 ∷ VerticalOutputDoubleLine ∷ Region 8 ∷ [])
    ∷ []

pub three_rows : read 0 three 1 ≡ Err TooManyOutputRows
unfolding read
three_rows = refl
