-- The texts of a sheet in slot order are no longer than the texts of its regions: the law `spelled-short`.
use Rattle.std.specs.Prelude.{Ok, Err, None, Some}
use mathlib.Core.Path.{◌≡◌, refl}
use mathlib.Core.Bool.{Bool, true, false}
use mathlib.Core.List.{List, [], ◌∷◌, ◌++◌}
use Prim.Native.Nat.{ℕ, zero, suc, ◌+◌, ◌≤◌}
use native.Mathlib.Omega.{arith}
use lib.ListN.{length}
use Rattle.lists.specs.Choose.{choose}
use Rattle.lists.proofs.AllLaws.{All, all_append, all-run}
use Rattle.model.specs.Refusals.{Reading}
use Rattle.cells.specs.Plane.{Plane}
use Rattle.record.specs.Policy.{Text}
use Rattle.record.specs.Record.{bytes_of}
use Rattle.values.specs.Values.{values_of}
use Rattle.values.proofs.ValueLaws.{split-length}
use Rattle.values.proofs.DefaultLength.{default-length}
use Rattle.clauses.specs.cell_tests.SheetCells.{region_at}
use Rattle.clauses.specs.Clauses.{present}
use Rattle.clauses.specs.Spelled.{join_run, read_or, cell_text, whole, optional, row_texts, first_output, values_row, names_row, label_text, input_text, values_text, output_text, note_texts, entry_texts, spelled}
use Rattle.clauses.specs.Stated.{allowed_text, default_text}
use Rattle.clauses.specs.declared.Shape.{Shape}

-- a text of at most m bytes, or none
abbrev pub Short : ℕ → Text → Type 0
Short m t = length (bytes_of t) ≤ m

all-joined : {A : Type 0} (Q : A → Type 0) (f : ℕ → List A) → ((i : ℕ) → All Q (f i)) → (k n : ℕ) → All Q (join_run f k n)
unfolding All join_run
all-joined Q f g k zero = tt
all-joined Q f g k (suc n) = all_append Q (f k) (join_run f (suc k) n) (g k) (all-joined Q f g (suc k) n)

module _ (m : ℕ) where
  choose-short : (b : Bool) (t u : Text) → Short m t → Short m u → Short m (choose b t u)
  choose-short true t u h k = h
  choose-short false t u h k = k

  present-short : (t : List ℕ) → length t ≤ m → Short m (present t)
  present-short [] h = h
  present-short (b ∷ t) h = h

  allowed-short : (t : Text) → Short m t → Short m (allowed_text t)
  allowed-short None h = h
  allowed-short (Some t) h = omega (arith, split-length t)

  default-short : (t : Text) → Short m t → Short m (default_text t)
  default-short None h = h
  default-short (Some t) h = go (values_of t).default refl
    where
      go : (d : Text) → (values_of t).default ≡ d → Short m d
      go None e = omega arith
      go (Some d) e = omega (arith, default-length t d e)

module _ (m : ℕ) (text : ℕ → List ℕ) (short : (k : ℕ) → length (text k) ≤ m) (P : Plane) where
  cell_short : (y x : ℕ) → length (cell_text text P y x) ≤ m
  cell_short y x = go (region_at P y x)
    where
      go : (a : Reading ℕ) → length (read_or a text []) ≤ m
      go (Ok k) = short k
      go (Err r) = omega arith

  optional-short : (y x : ℕ) → Short m (optional text P y x)
  optional-short y x = present-short m (cell_text text P y x) (cell_short y x)

  row-short : (y x n : ℕ) → All (Short m) (row_texts text P y x n)
  row-short y x n = all-run (Short m) (whole text P y) (cell_short y) x n

  module _ (s : Shape) where
    label-short : Short m (label_text text P s)
    label-short = choose-short m s.layout.labelled (optional text P 0 (first_output text P s)) None (optional-short 0 (first_output text P s)) (omega arith)

    input-short : (i : ℕ) → All (Short m) (input_text text P s i)
    unfolding All
    input-short i = (
      cell_short 0 i,
      (choose-short m s.allowed (optional text P (values_row text P s) i) None (optional-short (values_row text P s) i) (omega arith), tt),
    )

    values-short : (j : ℕ) → Short m (values_text text P s j)
    values-short j =
        choose-short m s.layout.valued (optional text P (values_row text P s) (first_output text P s + j)) None (optional-short (values_row text P s) (first_output text P s + j)) (omega arith)

    output-short : (j : ℕ) → All (Short m) (output_text text P s j)
    unfolding All
    output-short j = (
      choose-short m s.layout.named (optional text P (names_row text P s) (first_output text P s + j)) (label_text text P s) (optional-short (names_row text P s) (first_output text P s + j)) label-short,
      (allowed-short m (values_text text P s j) (values-short j), (default-short m (values_text text P s j) (values-short j), tt)),
    )

    notes-short : (y : ℕ) → All (Short m) (note_texts text P s y)
    notes-short y = row-short y s.notes.col s.notes.count

    entry_short : (r : ℕ) → All (Short m) (entry_texts text P s r)
    entry_short r =
        let y = s.height + 1 + r in
        let outs = row_texts text P y (first_output text P s) s.outputs in
        all_append (Short m) (row_texts text P y 0 s.inputs) (outs ++ note_texts text P s (s.notes.row + r)) (row-short y 0 s.inputs)
        (all_append (Short m) outs (note_texts text P s (s.notes.row + r)) (row-short y (first_output text P s) s.outputs) (notes-short (s.notes.row + r)))

    pub spelled-short : (rules : ℕ) → All (Short m) (spelled text P s rules)
    unfolding spelled All
    spelled-short rules =
        let entries = join_run (entry_texts text P s) 0 rules in
        let outputs = join_run (output_text text P s) 0 s.outputs in (
          label-short,
          all_append (Short m) (join_run (input_text text P s) 0 s.inputs) (outputs ++ (note_texts text P s 0 ++ entries)) (all-joined (Short m) (input_text text P s) input-short 0 s.inputs)
              (all_append (Short m) outputs (note_texts text P s 0 ++ entries) (all-joined (Short m) (output_text text P s) output-short 0 s.outputs)
              (all_append (Short m) (note_texts text P s 0) entries (notes-short 0) (all-joined (Short m) (entry_texts text P s) entry_short 0 rules))),
        )
