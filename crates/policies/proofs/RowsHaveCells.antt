-- Each row of a plane has cells, where a frame starts in a row above the line rows: the theorem `rows_have_cells`.
use Rattle.std.specs.Prelude.{Ok, Err}
use mathlib.Core.Path.{◌≡◌, refl, subst}
use mathlib.Core.Bool.{Bool, true, false}
use mathlib.Core.List.{List, [], ◌∷◌, ◌++◌}
use mathlib.Core.Logic.{⊎_elim}
use Prim.Native.Nat.{ℕ, suc, ◌<◌}
use native.Mathlib.Nat.{le_of_suc-le-suc, eq-or-lt_of_le}
use native.Mathlib.Omega.{arith}
use lib.Dec.{eqb, leb}
use lib.ListN.{length, length-append}
use borrow.Author.Tests.{eqb-true, eqb-false}
use Rattle.lists.specs.Answer.{◌>>=◌}
use Rattle.lists.specs.Choose.{choose}
use Rattle.lists.specs.Picture.{Picture}
use Rattle.lists.specs.Run.{build}
use Rattle.lists.proofs.AllLaws.{All, all_none, all_one, all_append}
use Rattle.lists.proofs.AnswerLaws.{refused-ok, then_ok}
use Rattle.lists.proofs.RunLaws.{length_run}
use Rattle.lists.proofs.Tests.{true_false}
use Rattle.model.specs.Limits.{plane_rows}
use Rattle.model.specs.Refusals.{Reading}
use Rattle.model.specs.declared.Cell.{Cell}
use Rattle.model.specs.declared.Cell.TheVariants.{Region}
use Rattle.model.specs.declared.Rect.{Rect}
use Rattle.model.specs.declared.Refusal.TheVariants.{OverLimit}
use Rattle.cells.specs.Plane.{Plane}
use Rattle.frames.specs.declared.outline.Outline.{Outline}
use Rattle.frames.specs.regions.Regions.{Finder, is_corner}
use Rattle.frames.specs.lookup.Lookup.{region_of}
use Rattle.text_planes.specs.plane_cells.Row.{Row, is_at, fitting, output_before, annotation_before, with_cell}
use Rattle.text_planes.specs.plane_rows.Rows.{Rows, output_line, annotation_line, add_line}
use Rattle.text_planes.specs.step.PlaneStep.{add_cell, row_by, add_row, add_frames, add_grid_row, no_rows, rows_by, plane_by}
use Rattle.policies.proofs.PlaneHasRows.{each_through}
use Rattle.text_planes.proofs.step.RegionsAmong.{fitted}

abbrev pub HasCells : List Cell → Type 0
HasCells r = 0 < length r

-- rows that have cells, and a last one that has some where it had some before
abbrev Keeps : Rows → Rows → Type 0
Keeps s t = All HasCells t.plane × (0 < s.width → 0 < t.width)

same_keeps : (s t : Rows) → s ≡ t → All HasCells s.plane → Keeps s t
same_keeps s t e q = subst (λ (u : Rows). Keeps s u) e (q, λ h. h)

-- one row more
more_keeps : (s t : Rows) (r : List Cell) → s.plane ++ (r ∷ []) ≡ t.plane → 0 < length r → All HasCells s.plane → All HasCells t.plane
more_keeps s t r e h q = subst (All HasCells) e (all_append HasCells s.plane (r ∷ []) q (all_one HasCells r h))

line_keeps : (line : ℕ → Cell) (s t : Rows) → add_line line s ≡ Ok t → 0 < s.width → All HasCells s.plane → Keeps s t
line_keeps line s t e l q = go (leb plane_rows (length s.plane)) e
  where
    go : (b : Bool)
        → choose b (Err OverLimit) (Ok (record { plane = s.plane ++ (build s.width line ∷ []); width = s.width; output = s.output; annotation = s.annotation })) ≡ Ok t
        → Keeps s t
    go true e = refused-ok e
    go false e =
        let z : s.width ≡ t.width = cc in
        (more_keeps s t (build s.width line) (cc) (omega (arith, length_run line 0 s.width)) q, λ h. omega arith)

line_if : (b : Bool) (line : ℕ → Cell) (s t : Rows) → choose b (add_line line s) (Ok s) ≡ Ok t → (b ≡ true → 0 < s.width) → All HasCells s.plane → Keeps s t
line_if true line s t e l q = line_keeps line s t e (l refl) q
line_if false line s t e l q = same_keeps s t (cc) q

-- the row of some frames, if it has cells
row_keeps : (s t : Rows) (r : Row) → add_row s r ≡ Ok t → All HasCells s.plane → Keeps s t × (HasCells r.cells → 0 < t.width)
row_keeps s t r e q = go (eqb (length r.cells) 0) refl e
  where
    go : (b : Bool) → eqb (length r.cells) 0 ≡ b
        → choose {A = Reading Rows} b (Ok s) (Ok (record { plane = s.plane ++ (r.cells ∷ []); width = length r.cells; output = r.output; annotation = r.annotation })) ≡ Ok t
        → Keeps s t × (HasCells r.cells → 0 < t.width)
    go true h e = (same_keeps s t (cc) q, λ l. absurd (omega (arith, eqb-true (length r.cells) 0 h)))
    go false h e =
        let z : length r.cells ≡ t.width = cc in
        let l : 0 < length r.cells = omega (arith, eqb-false (length r.cells) 0 h) in
        ((more_keeps s t r.cells (cc) l q, λ _. omega arith), λ _. omega arith)

module _ (o : Outline) (find : Finder) (regions : List Rect) (p : Picture) (w : ℕ) where
  -- a frame gives a cell
  cell_added : (n y x : ℕ) (s t : Row) → add_cell o find regions n y x s ≡ Ok t → HasCells t.cells
  cell_added n y x s t e =
      let a = then_ok (find x y) (λ f. ◌>>=◌ (region_of regions f) (λ i. fitting n (with_cell o x i s))) t e in
      let b = then_ok (region_of regions a.0) (λ i. fitting n (with_cell o x i s)) t a.2 in
      let i : List Cell = Region b.0 ∷ [] in
      subst (λ (r : Row). HasCells r.cells) (fitted o find regions n (with_cell o x b.0 s) t b.2)
      (omega (
        arith,
        length-append s.cells (output_before o x ++ (annotation_before o x ++ i)),
        length-append (output_before o x) (annotation_before o x ++ i),
        length-append (annotation_before o x) i,
      ))

  -- a row of GRID with a corner in column x has cells
  module _ (y x : ℕ) (c : is_corner (p x y) ≡ true) where
    abbrev Passed : ℕ → Row → Type 0
    Passed k r = x < k → HasCells r.cells

    corner_passed : (n k : ℕ) (s t : Row) → choose (is_corner (p k y)) (add_cell o find regions n y k s) (Ok s) ≡ Ok t → Passed k s → Passed (suc k) t
    corner_passed n k s t e q l = go (is_corner (p k y)) refl e
      where
        go : (b : Bool) → is_corner (p k y) ≡ b → choose b (add_cell o find regions n y k s) (Ok s) ≡ Ok t → HasCells t.cells
        go true h e = cell_added n y k s t e
        go false h e =
            let z : s ≡ t = cc in
            subst (λ (r : Row). HasCells r.cells) z
            (⊎_elim (λ u. true_false (subst (λ (j : ℕ). is_corner (p j y) ≡ true) u c) h) (λ m. q m) (eq-or-lt_of_le (le_of_suc-le-suc l)))

    row_has_cells : (n : ℕ) (s t : Row) → x < w → row_by o find regions p w n y s ≡ Ok t → HasCells t.cells
    row_has_cells n s t l e =
        each_through (λ k. is_corner (p k y)) (add_cell o find regions n y) Passed (corner_passed n) 0 w w (omega arith) s t e (λ m. absurd (omega arith)) l

  -- a frame starts in column x of row `top`, and the line rows stand below that row
  module _ (top x : ℕ) (corner : is_corner (p x top) ≡ true) (column : x < w) (main : top < o.y) (below : (y : ℕ) → is_at o.below y ≡ true → top < y) where
    -- the rows so far have cells, and below that row the last is not empty
    abbrev Begun : ℕ → Rows → Type 0
    Begun y s = All HasCells s.plane × (top < y → 0 < s.width)

    grid_row_begun : (y : ℕ) (s t : Rows) → add_grid_row o find regions p w y s ≡ Ok t → Begun y s → Begun (suc y) t
    grid_row_begun y s t e q =
        let under : Rows → Reading Rows = λ a. choose (is_at o.below y) (add_line (annotation_line a.output) a) (Ok a) in
        let a = then_ok (choose (eqb y o.y) (add_line (output_line s.output s.annotation) s) (Ok s)) (λ a. ◌>>=◌ (under a) (add_frames o find regions p w y)) t e in
        let b = then_ok (under a.0) (add_frames o find regions p w y) t a.2 in
        let start : Row = record { cells = []; output = b.0.output; annotation = b.0.annotation } in
        let n = length b.0.plane in
        let c = then_ok (row_by o find regions p w n y start) (add_row b.0) t b.2 in
        let u = line_if (eqb y o.y) (output_line s.output s.annotation) s a.0 a.1 (λ f. q.1 (omega (arith, main, eqb-true y o.y f))) q.0 in
        let v = line_if (is_at o.below y) (annotation_line a.0.output) a.0 b.0 b.1 (λ f. u.1 (q.1 (below y f))) u.0 in
        let r = row_keeps b.0 t c.0 c.2 v.0 in (
          r.0.0,
          λ l.
              ⊎_elim (λ i. r.1 (row_has_cells y x (subst (λ (j : ℕ). is_corner (p x j) ≡ true) i corner) n start c.0 column c.1))
              (λ m. r.0.1 (v.1 (u.1 (q.1 m)))) (eq-or-lt_of_le (le_of_suc-le-suc l)),
        )

    pub rows_have_cells : (h : ℕ) (P : Plane) → plane_by find o regions p w h ≡ Ok P → All HasCells P
    unfolding plane_by
    rows_have_cells h P e =
        let a = then_ok (rows_by find o regions p w h) (λ s. Ok s.plane) P e in
        let z : a.0.plane ≡ P = let g = a.2 in cc in
        subst (All HasCells) z
        (each_through (λ _. true) (add_grid_row o find regions p w) Begun grid_row_begun 0 h h (omega arith) no_rows a.0 a.1 (all_none HasCells, λ m. absurd (omega arith))).0
