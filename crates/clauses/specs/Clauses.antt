-- The clause rules: document 01, "The policy that a drawing states", and `recognize_horizontal_table` of the Rust.
-- The order of the lines is the order in which cells are read and sheets are refused.
use Rattle.std.specs.Prelude.{Bool, not, List, [], ◌∷◌, ℕ, ◌+◌, ◌-◌, eqb, ltb, length, Option, None, Some, Ok, Err}
use Rattle.lists.specs.Answer.{◌>>=◌, ◌>>◌}
use Rattle.lists.specs.Choose.{choose}
use Rattle.model.specs.Refusals.{Reading}
use Rattle.model.specs.declared.Cell.TheVariants.{MainDoubleCrossing, HorizontalDoubleCrossing}
use Rattle.model.specs.declared.Refusal.TheVariants.{NoMainCrossing, PlaneMalformed, NoOutputClause, TooManyOutputRows}
use Rattle.cells.specs.Plane.{Plane}
use Rattle.record.specs.Policy.{Text}
use Rattle.clauses.specs.cell_tests.Readings.{refuse}
use Rattle.clauses.specs.cell_tests.SheetCells.{width_of, region_at}
use Rattle.clauses.specs.allowed.Allowed.{allowed_of}
use Rattle.clauses.specs.Readings.{along}
use Rattle.cells.specs.declared.place.Place.{Place}
use Rattle.cells.specs.Places.{place_of}

-- the main crossing, or 9
abbrev pub main_of : Option Place → Reading Place
main_of None = Err NoMainCrossing
main_of (Some p) = Ok p

-- the outputs end at the annotation crossing, or at the end of row 0
abbrev pub outputs_end : Plane → Option Place → ℕ
outputs_end P None = width_of P 0
outputs_end P (Some q) = q.col

-- an empty text is absent
abbrev pub present : List ℕ → Text
present [] = None
present (b ∷ s) = Some (b ∷ s)

-- what the output clauses have: a label, component names, allowed values
pub record OutputTexts : Type 0 where
  pub label : Text
  pub names : List Text
  pub values : List Text

-- what the annotation clauses have
pub record NoteTexts : Type 0 where
  pub names : List (List ℕ)
  pub entries : List (List (List ℕ))

-- what the clause rules find
pub record Found : Type 0 where
  pub inputs : ℕ
  pub expressions : List (List ℕ)
  pub input_values : List Text
  pub input_entries : List (List (List ℕ))
  pub outputs : ℕ
  pub label : Text
  pub components : List Text
  pub output_values : List Text
  pub output_entries : List (List (List ℕ))
  pub annotations : List (List ℕ)
  pub annotation_entries : List (List (List ℕ))

-- the text of each region, trimmed; an upright sheet
module _ (text : ℕ → List ℕ) (P : Plane) where
  -- expressions, entries and annotation names are present, empty or not
  unfoldable pub text_at : ℕ → ℕ → Reading (List ℕ)
  text_at y x = do
    r ← region_at P y x
    Ok (text r)

  -- labels, component names and allowed values are absent when empty
  unfoldable pub optional_at : ℕ → ℕ → Reading Text
  optional_at y x = do
    r ← region_at P y x
    Ok (present (text r))

  -- from row y to the sheet's end, in the n columns from x on
  unfoldable pub entries_of : ℕ → ℕ → ℕ → Reading (List (List (List ℕ)))
  entries_of y x n = along (λ y. along (text_at y) x n) y (length P - y)

  -- one output, in column x, under h clause rows: with two, a joined box has allowed values and no label
  unfoldable pub one_output : ℕ → ℕ → Reading OutputTexts
  one_output x h =
      choose (eqb h 1) (do
        l ← optional_at 0 x
        Ok (record { label = l; names = []; values = [] }))
      (choose (eqb h 2) (do
        a ← region_at P 0 x
        b ← region_at P 1 x
        l ← choose (eqb a b) (Ok None) (optional_at 0 x)
        v ← optional_at 1 x
        Ok (record { label = l; names = []; values = v ∷ [] }))
      (Err TooManyOutputRows))

  -- m outputs from column x on: a label only above component names that are not in row 0
  unfoldable pub many_outputs : ℕ → ℕ → ℕ → Bool → Reading OutputTexts
  many_outputs x m h allowed =
      choose (eqb h 1) (do
        c ← along (optional_at 0) x m
        Ok (record { label = None; names = c; values = [] }))
      (choose (eqb h 2)
      (choose allowed (do
        c ← along (optional_at 0) x m
        v ← along (optional_at 1) x m
        Ok (record { label = None; names = c; values = v }))
      (do
        l ← optional_at 0 x
        c ← along (optional_at 1) x m
        Ok (record { label = l; names = c; values = [] })))
      (do
        l ← optional_at 0 x
        c ← along (optional_at 1) x m
        v ← along (optional_at 2) x m
        Ok (record { label = l; names = c; values = v })))

  unfoldable pub outputs_of : ℕ → ℕ → ℕ → Bool → Reading OutputTexts
  outputs_of x m h allowed =
      choose (eqb m 0) (Err NoOutputClause) (choose (eqb m 1) (one_output x h) (many_outputs x m h allowed))

  -- annotation names stand in row 0, entries from the row below the annotation crossing on; P9 is 10
  unfoldable pub notes_of : Option Place → Reading NoteTexts
  notes_of None = Ok (record { names = []; entries = [] })
  notes_of (Some q) = do
    refuse (not (ltb q.col (width_of P 0))) PlaneMalformed
    c ← along (text_at 0) (q.col + 1) (width_of P 0 - (q.col + 1))
    e ← entries_of (q.row + 1) (q.col + 1) (width_of P 0 - (q.col + 1))
    Ok (record { names = c; entries = e })

  -- from the main crossing and the annotation crossing: 9; P7 and P8 are 10; then in the order of the readings
  unfoldable pub found_from : Option Place → Option Place → Reading Found
  found_from main notes = do
    p ← main_of main
    let n = p.col
    let h = p.row
    let e = outputs_end P notes
    refuse (not (ltb n e)) PlaneMalformed
    let m = e - (n + 1)
    allowed ← allowed_of P n m h
    x ← along (text_at 0) 0 n
    v ← choose allowed (along (optional_at (h - 1)) 0 n) (Ok [])
    i ← entries_of (h + 1) 0 n
    o ← outputs_of (n + 1) m h allowed
    t ← entries_of (h + 1) (n + 1) m
    a ← notes_of notes
    Ok (record {
      inputs = n;
      expressions = x;
      input_values = v;
      input_entries = i;
      outputs = m;
      label = o.label;
      components = o.names;
      output_values = o.values;
      output_entries = t;
      annotations = a.names;
      annotation_entries = a.entries;
    })

  abbrev pub found_of : Reading Found
  found_of = found_from (place_of MainDoubleCrossing P) (place_of HorizontalDoubleCrossing P)
