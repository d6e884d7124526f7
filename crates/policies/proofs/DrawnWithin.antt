-- The plane of a drawing is within the limits, and so are its texts and its name.
use Rattle.std.specs.Prelude.{Ok, Err, None, Some}
use mathlib.Core.Path.{◌≡◌, refl, ap, subst, ◌∙◌}
use mathlib.Core.Bool.{Bool, true, false}
use mathlib.Core.List.{List, [], ◌∷◌, ◌++◌, map}
use Prim.Native.Nat.{ℕ, zero, suc, ◌≤◌, ◌<◌}
use native.Mathlib.Omega.{arith}
use lib.Dec.{eqb, leb, ltb}
use lib.ListN.{length, get_or, length-append}
use borrow.Author.Tests.{eqb-false, leb-false, ltb-false}
use Rattle.lists.specs.Answer.{◌>>=◌, those}
use Rattle.lists.specs.Choose.{choose}
use Rattle.lists.specs.Picture.{Picture}
use Rattle.lists.specs.Run.{build}
use Rattle.lists.specs.Transpose.{width}
use Rattle.lists.proofs.AllLaws.{each_keeps}
use Rattle.lists.proofs.AnswerLaws.{refused-ok, then_ok}
use Rattle.lists.proofs.RunLaws.{length_run}
use Rattle.model.specs.Limits.{plane_rows, plane_cells, text_bytes}
use Rattle.model.specs.Refusals.{Reading}
use Rattle.model.specs.declared.Cell.{Cell}
use Rattle.model.specs.declared.Rect.{Rect}
use Rattle.model.specs.declared.Refusal.TheVariants.{OverLimit}
use Rattle.cells.specs.Plane.{Plane, TextPlane}
use Rattle.record.specs.Policy.{Text}
use Rattle.frames.specs.declared.outline.Outline.{Outline}
use Rattle.frames.specs.regions.Regions.{Finder, regions_of}
use Rattle.frames.specs.lookup.Lookup.{region_of}
use Rattle.scan.specs.sheet_rows.Rows.{widest}
use Rattle.text_planes.specs.plane_cells.Row.{Row, is_at, fitting, with_cell}
use Rattle.text_planes.specs.plane_rows.Rows.{Rows, output_line, annotation_line, add_line}
use Rattle.text_planes.specs.step.PlaneStep.{corners_in, add_cell, row_by, add_row, add_frames, add_grid_row, no_rows, rows_by, plane_by}
use Rattle.text_planes.specs.texts.RegionText.{text_of, packed, texts_of}
use Rattle.text_planes.proofs.texts.TextsLaws.{texts_are, texts_fit}
use Rattle.walks.specs.Frame.{FrameFinder, frame_of}
use Rattle.walks.specs.Kinds as kind
use Rattle.text_planes.specs.DrawnPlane.{text_plane_by}
use Rattle.canvas.specs.Layers.{text_layer, thin_layer, grid_layer}
use Rattle.text_planes.specs.RegionTexts.{Regions, region_texts_by}
use Rattle.text_planes.proofs.NameIsFirstRegion.{name_is_first_region}
use Rattle.policies.specs.DrawnPolicy.{drawn_plane_by, name_by}
use Rattle.policies.proofs.SpelledShort.{Short}
use Rattle.policies.proofs.UprightWithin.{Within, PlaneWithin}

-- one row more
row_more : (P : Plane) (r : List Cell) → length P < plane_rows → length r ≤ plane_cells → Within P → Within (P ++ (r ∷ []))
unfolding width
row_more [] r h k w = record { rows = omega arith; cells = k }
row_more (t ∷ P) r h k w = record { rows = omega (arith, length-append P (r ∷ [])); cells = w.cells }

-- the rows so far: a line row is as long as the last
record RowsWithin (s : Rows) : Type 0 where
  plane : Within s.plane
  last : s.width ≤ plane_cells

line-within : (line : ℕ → Cell) (s t : Rows) → add_line line s ≡ Ok t → RowsWithin s → RowsWithin t
line-within line s t e w = go (leb plane_rows (length s.plane)) refl e
  where
    go : (b : Bool) → leb plane_rows (length s.plane) ≡ b
        → choose b (Err OverLimit) (Ok (record { plane = s.plane ++ (build s.width line ∷ []); width = s.width; output = s.output; annotation = s.annotation })) ≡ Ok t
        → RowsWithin t
    go true h e = refused-ok e
    go false h e =
        let z : record { plane = s.plane ++ (build s.width line ∷ []); width = s.width; output = s.output; annotation = s.annotation } ≡ t = cc in
        rw (← z) (record {
          plane = row_more s.plane (build s.width line) (leb-false plane_rows (length s.plane) h) (omega (arith, length_run line 0 s.width, w.last)) w.plane;
          last = w.last;
        })

line_if : (b : Bool) (line : ℕ → Cell) (s t : Rows) → choose b (add_line line s) (Ok s) ≡ Ok t → RowsWithin s → RowsWithin t
line_if true line s t e w = line-within line s t e w
line_if false line s t e w = let z : s ≡ t = cc in subst RowsWithin z w

-- row n of the plane, if it has cells
abbrev RowWithin : ℕ → Row → Type 0
RowWithin n r = 0 < length r.cells → (n < plane_rows) × (length r.cells ≤ plane_cells)

fitted : (n : ℕ) (s t : Row) → fitting n s ≡ Ok t → RowWithin n t
fitted n s t e = go (leb plane_rows n) (ltb plane_cells (length s.cells)) refl refl e
  where
    go : (a b : Bool) → leb plane_rows n ≡ a → ltb plane_cells (length s.cells) ≡ b → choose a (Err OverLimit) (choose b (Err OverLimit) (Ok s)) ≡ Ok t → RowWithin n t
    go true b h k e = refused-ok e
    go false true h k e = refused-ok e
    go false false h k e = let z : s ≡ t = cc in rw (← z) (λ _. (leb-false plane_rows n h, ltb-false plane_cells (length s.cells) k))

row_within : (s t : Rows) (r : Row) → add_row s r ≡ Ok t → RowWithin (length s.plane) r → RowsWithin s → RowsWithin t
row_within s t r e q w = go (eqb (length r.cells) 0) refl e
  where
    go : (b : Bool) → eqb (length r.cells) 0 ≡ b
        → choose {A = Reading Rows} b (Ok s) (Ok (record { plane = s.plane ++ (r.cells ∷ []); width = length r.cells; output = r.output; annotation = r.annotation })) ≡ Ok t
        → RowsWithin t
    go true h e = let z : s ≡ t = cc in subst RowsWithin z w
    go false h e =
        let z : record { plane = s.plane ++ (r.cells ∷ []); width = length r.cells; output = r.output; annotation = r.annotation } ≡ t = cc in
        let f = q (omega (arith, eqb-false (length r.cells) 0 h)) in
        rw (← z) (record { plane = row_more s.plane r.cells f.0 f.1 w.plane; last = f.1 })

module _ (o : Outline) (find : Finder) (regions : List Rect) (p : Picture) (w : ℕ) where
  cell_within : (n y x : ℕ) (s t : Row) → add_cell o find regions n y x s ≡ Ok t → RowWithin n s → RowWithin n t
  cell_within n y x s t e q =
      let a = then_ok (find x y) (λ f. ◌>>=◌ (region_of regions f) (λ i. fitting n (with_cell o x i s))) t e in
      let b = then_ok (region_of regions a.0) (λ i. fitting n (with_cell o x i s)) t a.2 in
      fitted n (with_cell o x b.0 s) t b.2

  frames_within : (y : ℕ) (s t : Rows) → add_frames o find regions p w y s ≡ Ok t → RowsWithin s → RowsWithin t
  frames_within y s t e q =
      let n = length s.plane in
      let start : Row = record { cells = []; output = s.output; annotation = s.annotation } in
      let a = then_ok (row_by o find regions p w n y start) (add_row s) t e in
      row_within s t a.0 a.2 (each_keeps (RowWithin n) (add_cell o find regions n y) (cell_within n y) (corners_in p w y) start a.0 a.1 (λ h. absurd (omega arith))) q

  grid_row_within : (y : ℕ) (s t : Rows) → add_grid_row o find regions p w y s ≡ Ok t → RowsWithin s → RowsWithin t
  grid_row_within y s t e q =
      let below : Rows → Reading Rows = λ a. choose (is_at o.below y) (add_line (annotation_line a.output) a) (Ok a) in
      let a = then_ok (choose (eqb y o.y) (add_line (output_line s.output s.annotation) s) (Ok s)) (λ a. ◌>>=◌ (below a) (add_frames o find regions p w y)) t e in
      let b = then_ok (below a.0) (add_frames o find regions p w y) t a.2 in
      let u = line_if (eqb y o.y) (output_line s.output s.annotation) s a.0 a.1 q in
      frames_within y b.0 t b.2 (line_if (is_at o.below y) (annotation_line a.0.output) a.0 b.0 b.1 u)

  plane-within : (h : ℕ) (P : Plane) → plane_by find o regions p w h ≡ Ok P → Within P
  unfolding plane_by width
  plane-within h P e =
      let a = then_ok (rows_by find o regions p w h) (λ s. Ok s.plane) P e in
      let z : a.0.plane ≡ P = let g = a.2 in cc in
      let start : RowsWithin no_rows = record { plane = record { rows = omega arith; cells = omega arith }; last = omega arith } in
      subst Within z (each_keeps RowsWithin (add_grid_row o find regions p w) grid_row_within (those (λ _. true) 0 h) no_rows a.0 a.1 start).plane

-- a text is no longer than all texts together
packed_one : (ts : List (List ℕ)) (k : ℕ) → length (get_or ts k []) ≤ length (packed ts)
unfolding packed
packed_one [] k = omega arith
packed_one (t ∷ ts) zero = omega (arith, length-append t (packed ts))
packed_one (t ∷ ts) (suc k) = omega (arith, length-append t (packed ts), packed_one ts k)

-- the regions with their texts, and the plane, that were read
abbrev pub DrawnRead : FrameFinder → List (List ℕ) → Outline → TextPlane → Type 0
DrawnRead find rs o t =
    let grid = grid_layer rs o.body in
    (g : Regions) × (region_texts_by find (text_layer rs) (thin_layer rs) (widest rs) (length rs) ≡ Ok g)
    × (plane_by (find kind.grid grid (widest rs) (length rs)) o g.rects grid (widest rs) (length rs) ≡ Ok t.plane) × (g.texts ≡ t.texts)

pub read_by : (find : FrameFinder) (rs : List (List ℕ)) (o : Outline) (t : TextPlane) → drawn_plane_by find rs o ≡ Ok t → DrawnRead find rs o t
unfolding text_plane_by
read_by find rs o t e =
    let grid = grid_layer rs o.body in
    let g = then_ok (region_texts_by find (text_layer rs) (thin_layer rs) (widest rs) (length rs)) _ t e in
    let P = then_ok (plane_by (find kind.grid grid (widest rs) (length rs)) o g.0.rects grid (widest rs) (length rs)) _ t g.2 in
    let z : record { plane = P.0; texts = g.0.texts } ≡ t = let q = P.2 in cc in
    (g.0, g.1, P.1 ∙ ap (λ (x : TextPlane). Ok x.plane) z, ap (λ (x : TextPlane). x.texts) z)

module _ (rs : List (List ℕ)) (o : Outline) (t : TextPlane) (e : drawn_plane_by frame_of rs o ≡ Ok t) where
  abbrev w : ℕ
  w = widest rs

  abbrev h : ℕ
  h = length rs

  pub read : DrawnRead frame_of rs o t
  read = read_by frame_of rs o t e

  pub gathered : (regions_of (thin_layer rs) w h ≡ Ok read.0.rects) × (texts_of (text_layer rs) read.0.rects ≡ Ok read.0.texts)
  unfolding region_texts_by
  gathered =
      let a = then_ok (regions_of (thin_layer rs) w h) _ read.0 read.1 in
      let b = then_ok (texts_of (text_layer rs) a.0) _ read.0 a.2 in
      let z : record { rects = a.0; texts = b.0 } ≡ read.0 = let q = b.2 in cc in
      rw (← z) (a.1, b.1)

  pub drawn-within : PlaneWithin t
  drawn-within =
      record {
        plane = plane-within o (frame_of kind.grid (grid_layer rs o.body) w h) read.0.rects (grid_layer rs o.body) w h t.plane read.2;
        texts = λ k. rw (← read.3) (omega (arith, packed_one read.0.texts k, texts_fit (text_layer rs) read.0.rects gathered.1));
      }

  -- the name is the text of the first region
  framed : (f : Rect) → frame_of kind.name (text_layer rs) w h 0 0 ≡ Ok f → length (text_of (text_layer rs) f) ≤ text_bytes
  unfolding packed
  framed f q =
      let r = name_is_first_region (text_layer rs) w h f q read.0.rects gathered.0 in
      let a = (texts_are (text_layer rs) read.0.rects read.0.texts gathered.1).0 in
      let b : length (packed (map (text_of (text_layer rs)) (f ∷ r.0))) ≤ text_bytes = rw r.1 at a in
      omega (arith, length-append (text_of (text_layer rs) f) (packed (map (text_of (text_layer rs)) r.0)))

  pub name-within : (b : Bool) (name : Text) → name_by frame_of rs b ≡ Ok name → Short text_bytes name
  name-within true name q =
      let f = then_ok (frame_of kind.name (text_layer rs) w h 0 0) _ name q in
      let z : Some (text_of (text_layer rs) f.0) ≡ name = let g = f.2 in cc in
      rw (← z) (framed f.0 f.1)
  name-within false name q = let z : None ≡ name = cc in rw (← z) (omega arith)
