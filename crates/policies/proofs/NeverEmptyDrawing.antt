-- No step from the bytes of a drawing to its plane is refused by number 8.
use Rattle.std.specs.Prelude.{Ok, Err, Result, ℕ, Option, None, Some}
use mathlib.Core.Path.{refl}
use mathlib.Core.Bool.{Bool, true, false, ◌&&◌}
use mathlib.Core.List.{List, [], ◌∷◌, map}
use Prim.Native.Nat.{ℕ, zero, suc, ◌+◌, ◌-◌, ◌*◌, ◌/◌, ◌%◌}
use lib.Dec.{eqb, leb, ltb}
use lib.ListN.{length}
use Rattle.lists.specs.Answer.{those}
use Rattle.lists.specs.Choose.{choose}
use Rattle.lists.specs.OneOf.{one_of}
use Rattle.lists.specs.Picture.{Picture, at}
use Rattle.model.specs.Box.{┌, ╥, ╬}
use Rattle.model.specs.Geometry.{contains_of}
use Rattle.model.specs.Limits.{plane_rows, plane_cells, region_count, text_bytes}
use Rattle.model.specs.declared.Cell.{Cell}
use Rattle.model.specs.declared.Rect.{Rect}
use Rattle.model.specs.declared.Refusal.TheVariants.{InvalidUtf8}
use Rattle.frames.specs.Body.{body_of}
use Rattle.walks.specs.along.Characters.{along_of}
use Rattle.walks.specs.declared.along.Lines.TheVariants.{Body}
use Rattle.frames.specs.outline.Outline.{search_from, search_of, named_by, table_of, outline_by}
use Rattle.frames.specs.declared.outline.Outline.{Outline}
use Rattle.frames.specs.regions.Regions.{Finder, corners_of, add_region, regions_by}
use Rattle.frames.specs.lookup.Lookup.{region_from, region_of}
use Rattle.scan.specs.sheet_rows.Rows.{rows_at, widest}
use Rattle.scan.specs.Canvas.{fits, size_of}
use Rattle.text_planes.specs.plane_cells.Row.{Row, is_at, fitting, with_cell}
use Rattle.text_planes.specs.plane_rows.Rows.{Rows, output_line, annotation_line, add_line}
use Rattle.text_planes.specs.step.PlaneStep.{corners_in, add_cell, row_by, add_row, add_frames, add_grid_row, no_rows, rows_by, plane_by}
use Rattle.text_planes.specs.texts.RegionText.{text_of, packed, texts_of}
use Rattle.characters.specs.utf8.Utf8.{checked, on_text}
use Rattle.walks.specs.Frame.{FrameFinder, Kind, frame_of}
use Rattle.walks.specs.Kinds as kind
use Rattle.walks.specs.Sides.{given, frame_at, by_sides}
use Rattle.walks.specs.Walk.{walk_from, go_of}
use Rattle.walks.specs.declared.Direction.TheVariants.{Right, Down, Left, Up}
use Rattle.text_planes.specs.DrawnPlane.{text_plane_by}
use Rattle.canvas.specs.Layers.{text_layer, thin_layer, grid_layer, drawing_by, sheet_by}
use Rattle.text_planes.specs.RegionTexts.{region_texts_by}
use Rattle.policies.specs.DrawnPolicy.{drawn_plane_by, name_by}
use Rattle.policies.proofs.NeverLaws.{Never, never_then, never_if, never_each}

-- walks, and searches for a character
never_walk : (line : ℕ → ℕ) (s a : List ℕ) (k n : ℕ) → Never 8 (walk_from line s a k n)
unfolding walk_from
never_walk line s a k zero = refl
never_walk line s a k (suc n) =
    never_if 8 (one_of (line (suc k)) s) _ _ tt (never_if 8 (one_of (line (suc k)) a) (walk_from line s a (suc k) n) _ (never_walk line s a (suc k) n) refl)

never_search : (f : ℕ → ℕ) (c i n : ℕ) → Never 8 (search_from f c i n)
unfolding search_from
never_search f c i zero = refl
never_search f c i (suc n) = never_if 8 (eqb (f i) c) (Ok i) (search_from f c (suc i) n) tt (never_search f c (suc i) n)

-- a way to find frames that is never refused by number 8: by walks, and by sides
abbrev pub NeverFrames : FrameFinder → Type 0
NeverFrames find = (K : Kind) (p : Picture) (w h x y : ℕ) → Never 8 (find K p w h x y)

pub never_walks : NeverFrames frame_of
unfolding frame_of
never_walks K p w h x y =
    never_then 8 (go_of Right p w h x y K.top_right K.top) _ (never_walk _ _ _ 0 _) (λ a _.
    never_then 8 (go_of Down p w h (x + a) y K.bottom_right K.right) _ (never_walk _ _ _ 0 _) (λ b _.
    never_then 8 (go_of Left p w h (x + a) (y + b) K.bottom_left K.bottom) _ (never_walk _ _ _ 0 _) (λ c _.
    never_then 8 (go_of Up p w h (x + a - c) (y + b) K.top_left K.left) _ (never_walk _ _ _ 0 _) (λ d _.
    never_if 8 (eqb (x + a - c) x && eqb (y + b - d) y) _ _ tt refl))))

never_given : (x y : ℕ) (r : Option Rect) → Never 8 (given x y r)
never_given x y (Some r) = tt
never_given x y None = refl

pub never_sides : NeverFrames by_sides
never_sides K p w h x y = never_given x y (frame_at K p w h x y)

-- the outline
never_body : (p : Picture) (w h x y : ℕ) → Never 8 (body_of p w h x y)
unfolding body_of
never_body p w h x y =
    never_then 8 (along_of Body Up p w h x y) _ (never_walk _ _ _ 0 _) (λ _ _.
    never_then 8 (along_of Body Down p w h x y) _ (never_walk _ _ _ 0 _) (λ _ _.
    never_then 8 (along_of Body Left p w h x y) _ (never_walk _ _ _ 0 _) (λ _ _.
    never_then 8 (along_of Body Right p w h x y) _ (never_walk _ _ _ 0 _) (λ _ _. tt))))

never_table : (p : Picture) (w h : ℕ) (n : Bool) (k : ℕ) → Never 8 (table_of p w h n k)
unfolding table_of
never_table p w h n k = never_then 8 (body_of p w h (k % w) (k / w)) _ (never_body p w h (k % w) (k / w)) (λ _ _. tt)

module _ (find : FrameFinder) (f : NeverFrames find) where
  never_named : (p : Picture) (w h row : ℕ) → Never 8 (named_by find p w h row)
  unfolding named_by
  never_named p w h row = never_if 8 (ltb 0 row) _ _ (never_then 8 (find kind.name p w h 0 0) _ (f kind.name p w h 0 0) (λ _ _. tt)) tt

  never_outline : (p : Picture) (w h : ℕ) → Never 8 (outline_by find p w h)
  unfolding outline_by
  never_outline p w h =
      never_then 8 (search_of ┌ p w h) _ (never_search (at p w) ┌ 0 (h * w)) (λ _ _.
      never_then 8 (search_of ╥ p w h) _ (never_search (at p w) ╥ 0 (h * w)) (λ edge _.
      never_then 8 (named_by find p w h (edge / w)) _ (never_named p w h (edge / w)) (λ n _.
      never_then 8 (search_of ╬ p w h) _ (never_search (at p w) ╬ 0 (h * w)) (λ k _. never_table p w h n k))))

  never_drawing : (rs : List (List ℕ)) → Never 8 (drawing_by find rs)
  unfolding drawing_by size_of
  never_drawing rs = never_then 8 (size_of rs) _ (never_if 8 (fits rs) _ _ tt refl) (λ z _. never_outline (text_layer rs) z.width z.height)

  pub never_sheet : (s : List ℕ) → Never 8 (sheet_by find s)
  unfolding sheet_by
  never_sheet s = go (checked s)
    where
      go : (c : Result (Unit {0}) ℕ) → Never 8 (on_text c (λ at. Err (InvalidUtf8 at)) (drawing_by find (rows_at s 0)))
      go (Ok tt) = never_drawing (rows_at s 0)
      go (Err at) = refl

-- the regions and their texts
never_region : (f : Rect) (i : ℕ) (rs : List Rect) → Never 8 (region_from f i rs)
unfolding region_from
never_region f i [] = refl
never_region f i (r ∷ rs) = never_if 8 (contains_of r f) (Ok i) (region_from f (suc i) rs) tt (never_region f (suc i) rs)

never_texts : (p : Picture) (rs : List Rect) → Never 8 (texts_of p rs)
unfolding texts_of
never_texts p rs = never_if 8 (ltb text_bytes (length (packed (map (text_of p) rs)))) _ _ refl tt

module _ (find : Finder) (f : (x y : ℕ) → Never 8 (find x y)) where
  never_regions : (p : Picture) (w h : ℕ) → Never 8 (regions_by find p w h)
  unfolding regions_by
  never_regions p w h =
      never_if 8 (ltb region_count (length (corners_of p w h))) _ _ refl
      (never_each 8 (add_region find w) (λ i rs. never_then 8 (find (i % w) (i / w)) _ (f (i % w) (i / w)) (λ _ _. tt)) (corners_of p w h) [])

  -- the plane
  module _ (o : Outline) (regions : List Rect) (p : Picture) (w : ℕ) where
    never_fitting : (n : ℕ) (s : Row) → Never 8 (fitting n s)
    never_fitting n s = never_if 8 (leb plane_rows n) _ _ refl (never_if 8 (ltb plane_cells (length s.cells)) _ _ refl tt)

    never_cell : (n y x : ℕ) (s : Row) → Never 8 (add_cell o find regions n y x s)
    never_cell n y x s =
        never_then 8 (find x y) _ (f x y) (λ r _.
        never_then 8 (region_of regions r) _ (never_region r 0 regions) (λ i _. never_fitting n (with_cell o x i s)))

    never_row : (s : Rows) (r : Row) → Never 8 (add_row s r)
    never_row s r = never_if 8 (eqb (length r.cells) 0) _ _ tt tt

    never_line : (b : Bool) (line : ℕ → Cell) (s : Rows) → Never 8 (choose b (add_line line s) (Ok s))
    never_line b line s = never_if 8 b _ _ (never_if 8 (leb plane_rows (length s.plane)) _ _ refl tt) tt

    never_frames : (y : ℕ) (s : Rows) → Never 8 (add_frames o find regions p w y s)
    never_frames y s =
        let n = length s.plane in
        let start : Row = record { cells = []; output = s.output; annotation = s.annotation } in
        never_then 8 (row_by o find regions p w n y start) _ (never_each 8 (add_cell o find regions n y) (never_cell n y) (corners_in p w y) start) (λ r _. never_row s r)

    never_grid_row : (y : ℕ) (s : Rows) → Never 8 (add_grid_row o find regions p w y s)
    never_grid_row y s =
        never_then 8 (choose (eqb y o.y) (add_line (output_line s.output s.annotation) s) (Ok s)) _ (never_line (eqb y o.y) (output_line s.output s.annotation) s) (λ a _.
        never_then 8 (choose (is_at o.below y) (add_line (annotation_line a.output) a) (Ok a)) _ (never_line (is_at o.below y) (annotation_line a.output) a) (λ b _.
        never_frames y b))

    never_plane : (h : ℕ) → Never 8 (plane_by find o regions p w h)
    unfolding plane_by
    never_plane h =
        never_then 8 (rows_by find o regions p w h) _ (never_each 8 (add_grid_row o find regions p w) never_grid_row (those (λ _. true) 0 h) no_rows) (λ _ _. tt)

module _ (find : FrameFinder) (f : NeverFrames find) where
  never_region_texts : (text lines : Picture) (w h : ℕ) → Never 8 (region_texts_by find text lines w h)
  unfolding region_texts_by
  never_region_texts text lines w h =
      never_then 8 (regions_by (find kind.thin lines w h) lines w h) _ (never_regions (find kind.thin lines w h) (f kind.thin lines w h) lines w h) (λ rs _.
      never_then 8 (texts_of text rs) _ (never_texts text rs) (λ _ _. tt))

  never_text_plane : (o : Outline) (text thin grid : Picture) (w h : ℕ) → Never 8 (text_plane_by find o text thin grid w h)
  unfolding text_plane_by
  never_text_plane o text thin grid w h =
      never_then 8 (region_texts_by find text thin w h) _ (never_region_texts text thin w h) (λ g _.
      never_then 8 (plane_by (find kind.grid grid w h) o g.rects grid w h) _ (never_plane (find kind.grid grid w h) (f kind.grid grid w h) o g.rects grid w h) (λ _ _. tt))

  pub never_drawn : (rs : List (List ℕ)) (o : Outline) → Never 8 (drawn_plane_by find rs o)
  never_drawn rs o = never_text_plane o (text_layer rs) (thin_layer rs) (grid_layer rs o.body) (widest rs) (length rs)

  pub never_name : (rs : List (List ℕ)) (b : Bool) → Never 8 (name_by find rs b)
  never_name rs true =
      let w = widest rs in
      let h = length rs in
      never_then 8 (find kind.name (text_layer rs) w h 0 0) _ (f kind.name (text_layer rs) w h 0 0) (λ _ _. tt)
  never_name rs false = tt
