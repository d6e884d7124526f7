-- The texts of a sheet whose shape is known, in slot order. No reader has to believe this: it is shown to be the texts of `clauses_of`.
use Rattle.std.specs.Prelude.{List, [], ◌∷◌, ◌++◌, ℕ, zero, suc, ◌+◌, ◌-◌, None, Some, Ok, Err}
use Rattle.lists.specs.Choose.{choose}
use Rattle.lists.specs.Run.{run}
use Rattle.model.specs.Refusals.{Reading}
use Rattle.cells.specs.Plane.{Plane}
use Rattle.record.specs.Policy.{Text}
use Rattle.clauses.specs.cell_tests.SheetCells.{region_at}
use Rattle.clauses.specs.Clauses.{present}
use Rattle.clauses.specs.Stated.{allowed_text, default_text}
use Rattle.clauses.specs.declared.Shape.{Shape}

-- f k, f (k + 1), .., n lists, one behind the other
unfoldable pub join_run : {A : Type 0} → (ℕ → List A) → ℕ → ℕ → List A
join_run f k zero = []
join_run f k (suc n) = f k ++ join_run f (suc k) n

-- what f makes of an answer, or b
abbrev pub read_or : {A B : Type 0} → Reading A → (A → B) → B → B
read_or (Ok a) f b = f a
read_or (Err r) f b = b

module _ (text : ℕ → List ℕ) (P : Plane) where
  -- the text of a cell; where it cannot be read, an empty one
  abbrev pub cell_text : ℕ → ℕ → List ℕ
  cell_text y x = read_or (region_at P y x) text []

  abbrev pub whole : ℕ → ℕ → Text
  whole y x = Some (cell_text y x)

  abbrev pub optional : ℕ → ℕ → Text
  optional y x = present (cell_text y x)

  -- the n cells of row y from column x on
  abbrev pub row_texts : ℕ → ℕ → ℕ → List Text
  row_texts y x n = run (whole y) x n

  module _ (s : Shape) where
    -- the column of the first output
    abbrev pub first_output : ℕ
    first_output = s.inputs + 1

    -- allowed values stand in the last clause row; component names above them, or with no allowed values in the last
    abbrev pub values_row : ℕ
    values_row = s.height - 1

    abbrev pub names_row : ℕ
    names_row = choose s.layout.valued (s.height - 2) (s.height - 1)

    abbrev pub label_text : Text
    label_text = choose s.layout.labelled (optional 0 first_output) None

    abbrev pub input_text : ℕ → List Text
    input_text i = whole 0 i ∷ choose s.allowed (optional values_row i) None ∷ []

    -- one output has the label for its name
    abbrev pub name_text : ℕ → Text
    name_text j = choose s.layout.named (optional names_row (first_output + j)) label_text

    abbrev pub values_text : ℕ → Text
    values_text j = choose s.layout.valued (optional values_row (first_output + j)) None

    abbrev pub output_text : ℕ → List Text
    output_text j = name_text j ∷ allowed_text (values_text j) ∷ default_text (values_text j) ∷ []

    abbrev pub note_texts : ℕ → List Text
    note_texts y = row_texts y s.notes.col s.notes.count

    -- rule r
    abbrev pub entry_texts : ℕ → List Text
    entry_texts r =
        row_texts (s.height + 1 + r) 0 s.inputs
        ++ (row_texts (s.height + 1 + r) first_output s.outputs ++ note_texts (s.notes.row + r))

    -- label; inputs; outputs; annotation names; rules
    unfoldable pub spelled : ℕ → List Text
    spelled rules =
        label_text ∷ (join_run input_text 0 s.inputs ++ (join_run output_text 0 s.outputs ++ (note_texts 0 ++ join_run entry_texts 0 rules)))
