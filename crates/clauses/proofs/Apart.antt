-- The clause rules taken apart: all their refusals with where everything stands, and then what is found there.
use Rattle.std.specs.Prelude.{Ok, Err, Option, None, Some}
use mathlib.Core.Bool.{Bool, true, false, not}
use mathlib.Core.List.{List, [], ◌∷◌}
use mathlib.Core.Path.{◌≡◌, refl, sym, ap, ◌∙◌}
use Prim.Native.Nat.{ℕ, ◌+◌, ◌-◌}
use native.Mathlib.Nat.{sub_self}
use lib.Dec.{eqb, ltb}
use lib.ListN.{length}
use borrow.Author.Tests.{eqb-true}
use Rattle.lists.specs.Answer.{◌>>=◌}
use Rattle.lists.specs.Choose.{choose}
use Rattle.lists.specs.Run.{run}
use Rattle.lists.proofs.AnswerLaws.{refused-ok}
use Rattle.lists.proofs.Tests.{by_flag}
use Rattle.model.specs.Refusals.{Reading}
use Rattle.model.specs.declared.Refusal.TheVariants.{PlaneMalformed}
use Rattle.cells.specs.Plane.{Plane}
use Rattle.record.specs.Policy.{Text}
use Rattle.clauses.specs.cell_tests.Readings.{refuse}
use Rattle.clauses.specs.cell_tests.SheetCells.{width_of, region_at, column_is}
use Rattle.clauses.specs.allowed.Allowed.{allowed_of}
use Rattle.clauses.specs.Readings.{along}
use Rattle.cells.specs.declared.place.Place.{Place}
use Rattle.clauses.specs.Clauses.{main_of, outputs_end, present, OutputTexts, NoteTexts, Found, text_at, optional_at, entries_of, one_output, many_outputs, outputs_of, notes_of, found_from}
use Rattle.clauses.specs.passes.Passes.{fine, fine_row, fine_rows}
use Rattle.clauses.specs.layouts.Layouts.{one_layout, named_layout, labelled_layout, many_layout, layout_of}
use Rattle.clauses.specs.Shape.{notes_at, inputs_fine, clauses_at, shape_of}
use Rattle.clauses.specs.Spelled.{read_or, cell_text, optional}
use Rattle.clauses.specs.declared.layouts.Layout.{Layout}
use Rattle.clauses.specs.declared.Notes.{Notes}
use Rattle.clauses.specs.declared.Shape.{Shape}
use Rattle.clauses.proofs.ReadingsApart.{Apart, after, same, way, joined, along_apart}

-- a reading of a cell, and a text made of it
cell_apart : {A : Type 0} (m : Reading ℕ) (text : ℕ → List ℕ) (g : List ℕ → A)
    → Apart (◌>>=◌ m (λ r. Ok (g (text r)))) (◌>>=◌ m (λ _. Ok (tt {0}))) (λ _. g (read_or m text []))
cell_apart (Ok r) text g = refl
cell_apart (Err r) text g = refl

-- three clause rows, where they are not refused and neither one nor two
three_rows : (P : Plane) (n m h : ℕ) (t : Bool) → allowed_of P n m h ≡ Ok t → eqb h 1 ≡ false → eqb h 2 ≡ false → h ≡ 3
unfolding allowed_of
three_rows P n m h t e f f' =
    by_flag (eqb h 3) (eqb-true h 3) (λ z. refused-ok (rw (f, f', z) at e))

-- the texts of the regions, and a sheet
module _ (text : ℕ → List ℕ) (P : Plane) where
  abbrev cell : ℕ → ℕ → List ℕ
  cell y x = cell_text text P y x

  abbrev opt : ℕ → ℕ → Text
  opt y x = optional text P y x

  text_apart : (y x : ℕ) → Apart (text_at text P y x) (fine P y x) (λ _. cell y x)
  unfolding text_at fine
  text_apart y x = cell_apart (region_at P y x) text (λ t. t)

  optional_apart : (y x : ℕ) → Apart (optional_at text P y x) (fine P y x) (λ _. opt y x)
  unfolding optional_at fine
  optional_apart y x = cell_apart (region_at P y x) text present

  texts_apart : (y x n : ℕ) → Apart (along (text_at text P y) x n) (fine_row P y x n) (λ _. run (cell y) x n)
  texts_apart y x n = along_apart (text_at text P y) (fine P y) (cell y) (text_apart y) x n

  optionals_apart : (y x n : ℕ) → Apart (along (optional_at text P y) x n) (fine_row P y x n) (λ _. run (opt y) x n)
  optionals_apart y x n = along_apart (optional_at text P y) (fine P y) (opt y) (optional_apart y) x n

  -- the entries from row y to the sheet's end, in the n columns from x on
  abbrev pub entries_as : ℕ → ℕ → ℕ → List (List (List ℕ))
  entries_as y x n = run (λ k. run (cell k) x n) y (length P - y)

  entries_apart : (y x n : ℕ) → Apart (entries_of text P y x n) (fine_rows P y x n) (λ _. entries_as y x n)
  unfolding entries_of
  entries_apart y x n =
      along_apart (λ k. along (text_at text P k) x n) (λ k. fine_row P k x n) (λ k. run (cell k) x n) (λ k. texts_apart k x n) y (length P - y)

  -- what m outputs from column x on have, under h clause rows
  abbrev pub outputs_as : ℕ → ℕ → ℕ → Layout → OutputTexts
  outputs_as x m h l =
      record {
        label = choose l.labelled (opt 0 x) None;
        names = choose l.named (run (opt (choose l.valued (h - 2) (h - 1))) x m) [];
        values = choose l.valued (run (opt (h - 1)) x m) [];
      }

  -- one output under two clause rows, by the two regions
  boxes_apart : (x m h : ℕ) → m ≡ 1 → h ≡ 2 → (r s : Reading ℕ) → region_at P 0 x ≡ r → region_at P 1 x ≡ s
      → Apart
      (◌>>=◌ r (λ a. ◌>>=◌ s (λ b. ◌>>=◌ (choose (eqb a b) (Ok None) (◌>>=◌ r (λ c. Ok (present (text c)))))
      (λ l. ◌>>=◌ (◌>>=◌ s (λ c. Ok (present (text c)))) (λ v. Ok (record { label = l; names = []; values = v ∷ [] }))))))
      (◌>>=◌ (◌>>=◌ r (λ a. ◌>>=◌ s (λ b. Ok (not (eqb a b))))) (λ apart. Ok (record { labelled = apart; named = false; valued = true })))
      (outputs_as x m h)
  unfolding run
  boxes_apart x m h em eh (Err e) s er es = refl
  boxes_apart x m h em eh (Ok a) (Err e) er es = refl
  boxes_apart x m h em eh (Ok a) (Ok b) er es = rw (em, eh, er, es) (by_flag (eqb a b) (λ t. rw t) (λ t. rw t))

  -- a text that may be absent, or a row of them, read first
  module _ (x m h : ℕ) (l : Unit {0} → Reading Layout) where
    label-first : (k : Text → Reading OutputTexts) → Apart (k (opt 0 x)) (l tt) (outputs_as x m h)
        → Apart (◌>>=◌ (optional_at text P 0 x) k) (◌>>=◌ (fine P 0 x) l) (outputs_as x m h)
    label-first k e = after _ (fine P 0 x) (λ _. opt 0 x) k l (outputs_as x m h) (optional_apart 0 x) (λ _ _. e)

    row_first : (y : ℕ) (k : List Text → Reading OutputTexts) → Apart (k (run (opt y) x m)) (l tt) (outputs_as x m h)
        → Apart (◌>>=◌ (along (optional_at text P y) x m) k) (◌>>=◌ (fine_row P y x m) l) (outputs_as x m h)
    row_first y k e = after _ (fine_row P y x m) (λ _. run (opt y) x m) k l (outputs_as x m h) (optionals_apart y x m) (λ _ _. e)

  one_apart : (x m h : ℕ) → m ≡ 1 → Apart (one_output text P x h) (one_layout P x h) (outputs_as x m h)
  unfolding one_output one_layout optional_at column_is
  one_apart x m h em =
      way (eqb h 1) _ _ _ _ _
      (λ _. label-first x m h _ _ refl)
      (λ _. way (eqb h 2) _ _ _ _ _ (λ e. boxes_apart x m h em (eqb-true h 2 e) (region_at P 0 x) (region_at P 1 x) refl refl) (λ _. refl))

  many_apart : (x m h : ℕ) (allowed : Bool) → (eqb h 1 ≡ false → eqb h 2 ≡ false → h ≡ 3)
      → Apart (many_outputs text P x m h allowed) (many_layout P x m h allowed) (outputs_as x m h)
  unfolding many_outputs many_layout named_layout labelled_layout
  many_apart x m h allowed three =
      way (eqb h 1) _ _ _ _ _
      (λ e. row_first x m h _ 0 _ (rw (eqb-true h 1 e)))
      (λ f. way (eqb h 2) _ _ _ _ _
      (λ e. way allowed _ _ _ _ _
      (λ _. row_first x m h _ 0 _ (row_first x m h _ 1 _ (rw (eqb-true h 2 e))))
      (λ _. label-first x m h _ _ (row_first x m h _ 1 _ (rw (eqb-true h 2 e)))))
      (λ f'. label-first x m h _ _ (row_first x m h _ 1 _ (row_first x m h _ 2 _ (rw (three f f'))))))

  outputs_apart : (x m h : ℕ) (allowed : Bool) → (eqb h 1 ≡ false → eqb h 2 ≡ false → h ≡ 3)
      → Apart (outputs_of text P x m h allowed) (layout_of P x m h allowed) (outputs_as x m h)
  unfolding outputs_of layout_of
  outputs_apart x m h allowed three =
      way (eqb m 0) _ _ _ _ _ (λ _. refl)
      (λ _. way (eqb m 1) _ _ _ _ _ (λ e. one_apart x m h (eqb-true m 1 e)) (λ _. many_apart x m h allowed three))

  -- what the annotations have
  abbrev pub notes_as : Notes → NoteTexts
  notes_as a = record { names = run (cell 0) a.col a.count; entries = entries_as a.row a.col a.count }

  notes_apart : (q : Option Place) → Apart (notes_of text P q) (notes_at P q) notes_as
  unfolding notes_of notes_at run
  notes_apart None = rw (sub_self (length P))
  notes_apart (Some q) =
      let n = width_of P 0 - (q.col + 1) in
      same (refuse (not (ltb q.col (width_of P 0))) PlaneMalformed) _ _ notes_as (λ _ _.
      after _ (fine_row P 0 (q.col + 1) n) (λ _. run (cell 0) (q.col + 1) n) _ _ notes_as (texts_apart 0 (q.col + 1) n) (λ _ _.
      after _ (fine_rows P (q.row + 1) (q.col + 1) n) (λ _. entries_as (q.row + 1) (q.col + 1) n) _ _ notes_as (entries_apart (q.row + 1) (q.col + 1) n) (λ _ _.
      refl)))

  -- what is found on a sheet of a shape
  unfoldable pub found_as : Shape → Found
  found_as s =
      let o = outputs_as (s.inputs + 1) s.outputs s.height s.layout in
      record {
        inputs = s.inputs;
        expressions = run (cell 0) 0 s.inputs;
        input_values = choose s.allowed (run (opt (s.height - 1)) 0 s.inputs) [];
        input_entries = entries_as (s.height + 1) 0 s.inputs;
        outputs = s.outputs;
        label = o.label;
        components = o.names;
        output_values = o.values;
        output_entries = entries_as (s.height + 1) (s.inputs + 1) s.outputs;
        annotations = (notes_as s.notes).names;
        annotation_entries = (notes_as s.notes).entries;
      }

  values_apart : (t : Bool) (y n : ℕ) → Apart (choose t (along (optional_at text P y) 0 n) (Ok [])) (choose t (fine_row P y 0 n) (Ok tt)) (λ _. choose t (run (opt y) 0 n) [])
  values_apart true y n = optionals_apart y 0 n
  values_apart false y n = refl

  -- the inputs read first
  inputs-first : (n h : ℕ) (t : Bool) (k : List (List ℕ) → List Text → List (List (List ℕ)) → Reading Found) (m : Unit {0} → Reading Shape)
      → Apart (k (run (cell 0) 0 n) (choose t (run (opt (h - 1)) 0 n) []) (entries_as (h + 1) 0 n)) (m tt) found_as
      → Apart (◌>>=◌ (along (text_at text P 0) 0 n) (λ x. ◌>>=◌ (choose t (along (optional_at text P (h - 1)) 0 n) (Ok [])) (λ v. ◌>>=◌ (entries_of text P (h + 1) 0 n) (k x v))))
      (◌>>=◌ (inputs_fine P n h t) m) found_as
  unfolding inputs_fine
  inputs-first n h t k m e =
      after _ (fine_row P 0 0 n) (λ _. run (cell 0) 0 n) _ _ found_as (texts_apart 0 0 n) (λ _ _.
      after _ (choose t (fine_row P (h - 1) 0 n) (Ok tt)) (λ _. choose t (run (opt (h - 1)) 0 n) []) _ _ found_as (values_apart t (h - 1) n) (λ _ _.
      after _ (fine_rows P (h + 1) 0 n) (λ _. entries_as (h + 1) 0 n) _ m found_as (entries_apart (h + 1) 0 n) (λ _ _. e)))
      ∙ ap (λ (r : Reading Shape). ◌>>=◌ r (λ s. Ok (found_as s)))
      (sym (joined (fine_row P 0 0 n) (choose t (fine_row P (h - 1) 0 n) (Ok tt)) (fine_rows P (h + 1) 0 n) m))

  pub found_apart : (main notes : Option Place) → found_from text P main notes ≡ ◌>>=◌ (shape_of P main notes) (λ s. Ok (found_as s))
  unfolding found_from shape_of clauses_at found_as
  found_apart main notes =
      same (main_of main) _ _ found_as (λ p _.
      let n = p.col in
      let h = p.row in
      let m = outputs_end P notes - (n + 1) in
      same (refuse (not (ltb n (outputs_end P notes))) PlaneMalformed) _ _ found_as (λ _ _.
      same (allowed_of P n m h) _ _ found_as (λ t e.
      inputs-first n h t _ _ (
      after _ (layout_of P (n + 1) m h t) (outputs_as (n + 1) m h) _ _ found_as (outputs_apart (n + 1) m h t (three_rows P n m h t e)) (λ l _.
      after _ (fine_rows P (h + 1) (n + 1) m) (λ _. entries_as (h + 1) (n + 1) m) _ _ found_as (entries_apart (h + 1) (n + 1) m) (λ _ _.
      after _ (notes_at P notes) notes_as _ _ found_as (notes_apart notes) (λ a _.
      refl)))))))
