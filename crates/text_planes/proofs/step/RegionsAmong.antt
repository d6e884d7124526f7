-- The regions of a plane are among those that its frames were looked for in.
use Rattle.std.specs.Prelude.{Ok, Err, Option, ℕ}
use mathlib.Core.Path.{◌≡◌, subst}
use mathlib.Core.Bool.{Bool, true, false}
use mathlib.Core.List.{List, [], ◌∷◌, ◌++◌}
use Prim.Native.Nat.{ℕ, ◌<◌}
use native.Mathlib.Omega.{arith}
use lib.Dec.{eqb, leb, ltb}
use lib.ListN.{length}
use Rattle.lists.specs.Answer.{◌>>=◌, those}
use Rattle.lists.specs.Choose.{choose}
use Rattle.lists.specs.Picture.{Picture}
use Rattle.lists.specs.Run.{build}
use Rattle.lists.proofs.AllLaws.{All, all_none, all_one, all_append, all-run, all-choose, each_keeps}
use Rattle.lists.proofs.AnswerLaws.{then_ok, refused-ok}
use Rattle.model.specs.Limits.{plane_rows, plane_cells}
use Rattle.model.specs.Refusals.{Reading}
use Rattle.model.specs.declared.Cell.{Cell}
use Rattle.model.specs.declared.Cell.TheVariants.{Region, VerticalOutputDoubleLine, VerticalAnnotationDoubleLine, HorizontalOutputDoubleLine, HorizontalAnnotationsDoubleLine, MainDoubleCrossing, HorizontalDoubleCrossing, VerticalDoubleCrossing}
use Rattle.model.specs.declared.Rect.{Rect}
use Rattle.model.specs.declared.Refusal.TheVariants.{OverLimit}
use Rattle.cells.specs.Plane.{Plane}
use Rattle.cells.specs.Held.{Numbered}
use Rattle.cells.proofs.AmongLaws.{Among}
use Rattle.frames.specs.declared.outline.Outline.{Outline}
use Rattle.frames.specs.regions.Regions.{Finder}
use Rattle.frames.specs.lookup.Lookup.{region_of}
use Rattle.frames.proofs.lookup.FirstLaws.{region_number_lem}
use Rattle.text_planes.specs.plane_cells.Row.{Row, is_at, fitting, output_before, annotation_before, with_cell}
use Rattle.text_planes.specs.plane_rows.Rows.{Rows, output_line, annotation_line, add_line}
use Rattle.text_planes.specs.step.PlaneStep.{corners_in, add_cell, row_by, add_row, add_frames, add_grid_row, no_rows, rows_by, plane_by}

no_region_lem : {A : Type 0} → ◌≡◌ {A = ℕ} 0 1 → A
no_region_lem e = absurd (omega arith)

choose_numbered : (n : ℕ) (t : Bool) (a b : Cell) → Numbered n a → Numbered n b → Numbered n (choose t a b)
choose_numbered n true a b p q = p
choose_numbered n false a b p q = q

module _ (n : ℕ) where
  output_below : (a b : Option ℕ) (i : ℕ) → Numbered n (output_line a b i)
  output_below a b i =
      choose_numbered n (is_at a i) MainDoubleCrossing (choose (is_at b i) HorizontalDoubleCrossing HorizontalOutputDoubleLine) (λ r e. no_region_lem cc)
      (choose_numbered n (is_at b i) HorizontalDoubleCrossing HorizontalOutputDoubleLine (λ r e. no_region_lem cc) (λ r e. no_region_lem cc))

  annotation_below : (a : Option ℕ) (i : ℕ) → Numbered n (annotation_line a i)
  annotation_below a i = choose_numbered n (is_at a i) VerticalDoubleCrossing HorizontalAnnotationsDoubleLine (λ r e. no_region_lem cc) (λ r e. no_region_lem cc)

  line-among : (line : ℕ → Cell) → ((i : ℕ) → Numbered n (line i)) → (s t : Rows) → add_line line s ≡ Ok t → Among n s.plane → Among n t.plane
  line-among line f s t e q = go (leb plane_rows (length s.plane)) e
    where
      go : (b : Bool)
          → choose b (Err OverLimit) (Ok (record { plane = s.plane ++ (build s.width line ∷ []); width = s.width; output = s.output; annotation = s.annotation })) ≡ Ok t
          → Among n t.plane
      go true e = refused-ok e
      go false e =
          let z : s.plane ++ (build s.width line ∷ []) ≡ t.plane = cc in
          subst (Among n) z (all_append (All (Numbered n)) s.plane (build s.width line ∷ []) q (all_one (All (Numbered n)) (build s.width line) (all-run (Numbered n) line f 0 s.width)))

  line_if : (b : Bool) (line : ℕ → Cell) → ((i : ℕ) → Numbered n (line i)) → (s t : Rows) → choose b (add_line line s) (Ok s) ≡ Ok t → Among n s.plane → Among n t.plane
  line_if true line f s t e q = line-among line f s t e q
  line_if false line f s t e q = let z : s ≡ t = cc in subst (λ (u : Rows). Among n u.plane) z q

module _ (o : Outline) (find : Finder) (regions : List Rect) where
  abbrev count : ℕ
  count = length regions

  pub fitted : (n : ℕ) (s t : Row) → fitting n s ≡ Ok t → s ≡ t
  fitted n s t e = go (leb plane_rows n) (ltb plane_cells (length s.cells)) e
    where
      go : (a b : Bool) → choose a (Err OverLimit) (choose b (Err OverLimit) (Ok s)) ≡ Ok t → s ≡ t
      go true b e = refused-ok e
      go false true e = refused-ok e
      go false false e = cc

  with_cell_lem : (x i : ℕ) (s : Row) → i < count → All (Numbered count) s.cells → All (Numbered count) (with_cell o x i s).cells
  with_cell_lem x i s h q =
      all_append (Numbered count) s.cells _ q
      (all_append (Numbered count) (output_before o x) _ (all-choose (Numbered count) (eqb x o.x) (VerticalOutputDoubleLine ∷ []) [] (all_one (Numbered count) _ (λ r e. no_region_lem cc)) (all_none (Numbered count)))
      (all_append (Numbered count) (annotation_before o x) _ (all-choose (Numbered count) (is_at o.right x) (VerticalAnnotationDoubleLine ∷ []) [] (all_one (Numbered count) _ (λ r e. no_region_lem cc)) (all_none (Numbered count)))
      (all_one (Numbered count) (Region i) (λ r e. let z : i ≡ r = cc in omega arith))))

  cell_among : (n y x : ℕ) (s t : Row) → add_cell o find regions n y x s ≡ Ok t → All (Numbered count) s.cells → All (Numbered count) t.cells
  cell_among n y x s t e q =
      let a = then_ok (find x y) (λ f. ◌>>=◌ (region_of regions f) (λ i. fitting n (with_cell o x i s))) t e in
      let b = then_ok (region_of regions a.0) (λ i. fitting n (with_cell o x i s)) t a.2 in
      let h : b.0 < count = region_number_lem regions a.0 b.0 b.1 in
      subst (λ (r : Row). All (Numbered count) r.cells) (fitted n (with_cell o x b.0 s) t b.2) (with_cell_lem x b.0 s h q)

  row_added : (s t : Rows) (r : Row) → add_row s r ≡ Ok t → All (Numbered count) r.cells → Among count s.plane → Among count t.plane
  row_added s t r e p q = go (eqb (length r.cells) 0) e
    where
      go : (b : Bool) → choose {A = Reading Rows} b (Ok s) (Ok (record { plane = s.plane ++ (r.cells ∷ []); width = length r.cells; output = r.output; annotation = r.annotation })) ≡ Ok t
          → Among count t.plane
      go true e = let z : s ≡ t = cc in subst (λ (u : Rows). Among count u.plane) z q
      go false e =
          let z : s.plane ++ (r.cells ∷ []) ≡ t.plane = cc in
          subst (Among count) z (all_append (All (Numbered count)) s.plane (r.cells ∷ []) q (all_one (All (Numbered count)) r.cells p))

  module _ (p : Picture) (w : ℕ) where
    frames_among : (y : ℕ) (s t : Rows) → add_frames o find regions p w y s ≡ Ok t → Among count s.plane → Among count t.plane
    frames_among y s t e q =
        let start : Row = record { cells = []; output = s.output; annotation = s.annotation } in
        let a = then_ok (row_by o find regions p w (length s.plane) y start) (add_row s) t e in
        let c = each_keeps (λ (r : Row). All (Numbered count) r.cells) (add_cell o find regions (length s.plane) y) (cell_among (length s.plane) y) (corners_in p w y) start a.0 a.1 (all_none (Numbered count)) in
        row_added s t a.0 a.2 c q

    grid_row_among : (y : ℕ) (s t : Rows) → add_grid_row o find regions p w y s ≡ Ok t → Among count s.plane → Among count t.plane
    grid_row_among y s t e q =
        let below : Rows → Reading Rows = λ a. choose (is_at o.below y) (add_line (annotation_line a.output) a) (Ok a) in
        let a = then_ok (choose (eqb y o.y) (add_line (output_line s.output s.annotation) s) (Ok s)) (λ a. ◌>>=◌ (below a) (add_frames o find regions p w y)) t e in
        let b = then_ok (below a.0) (add_frames o find regions p w y) t a.2 in
        let u = line_if count (eqb y o.y) (output_line s.output s.annotation) (output_below count s.output s.annotation) s a.0 a.1 q in
        let v = line_if count (is_at o.below y) (annotation_line a.0.output) (annotation_below count a.0.output) a.0 b.0 b.1 u in
        frames_among y b.0 t b.2 v

    pub plane-among : (h : ℕ) (P : Plane) → plane_by find o regions p w h ≡ Ok P → Among count P
    unfolding plane_by
    plane-among h P e =
        let a = then_ok (rows_by find o regions p w h) (λ s. Ok s.plane) P e in
        let z : a.0.plane ≡ P = cc in
        subst (Among count) z
        (each_keeps (λ (s : Rows). Among count s.plane) (add_grid_row o find regions p w) grid_row_among (those (λ _. true) 0 h) no_rows a.0 a.1 (all_none (All (Numbered count))))
