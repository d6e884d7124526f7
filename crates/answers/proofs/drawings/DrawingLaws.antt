-- From what drawing a sheet and reading its regions promise to the lines that are printed.
use Rattle.std.specs.Prelude.{Ok, Err, Result, ℕ}
use mathlib.Core.Path.{◌≡◌, refl, sym, ap, subst, ◌∙◌}
use mathlib.Core.Bool.{true}
use mathlib.Core.List.{List, ◌++◌}
use Prim.Native.Nat.{ℕ, ◌*◌, ◌≤◌}
use native.Mathlib.Nat.{mul-le-mul}
use native.Mathlib.Omega.{arith}
use lib.ListN.{length}
use Rattle.lists.specs.Picture.{Picture, canvas}
use Rattle.lists.proofs.AnswerLaws.{refused-ok}
use Rattle.lists.proofs.Tests.{by_flag}
use Rattle.model.specs.Limits.{canvas_columns, canvas_rows, canvas_size, region_count, text_bytes}
use Rattle.model.specs.Refusals.{Reading, numbers}
use Rattle.model.specs.declared.Refusal.{Refusal}
use Rattle.model.specs.declared.layer.Layer.{Layer}
use Rattle.frames.specs.declared.outline.Outline.{Outline}
use Rattle.scan.specs.sheet_rows.Rows.{rows_at}
use Rattle.scan.specs.Canvas.{fits, size_of}
use Rattle.scan.proofs.Answers.{fits-size}
use Rattle.characters.specs.utf8.Utf8.{checked}
use Rattle.canvas.specs.Layers.{drawing_by, drawing_of, sheet_by, sheet_of}
use Rattle.canvas.specs.Drawn.{outline_in, LayersIn, Shown}
use Rattle.text_planes.specs.RegionTexts.{Regions as Shape, region_texts_of, regions_in, UsedIn}
use Rattle.canvas.specs.declared.Drawing.{Drawing}
use Rattle.text_planes.specs.declared.RegionsRead.{RegionsRead}
use Rattle.cells.specs.Plane.{Plane, plane_in}
use Rattle.cells.specs.Spans.{texts_in}
use Rattle.cells.specs.rects.Rects.{rects_of}
use Rattle.text_planes.specs.texts.RegionText.{packed}
use Rattle.text_planes.specs.step.Made.{plane_made}
use Rattle.text_planes.specs.step.PlaneStep.{plane_of}
use Rattle.print.specs.Lines.{refused_line}
use Rattle.answers.specs.plane_lines.Planes.{plane_lines}
use Rattle.answers.specs.sketch.Drawings.{layers_lines, counted_lines, name_line}
use Rattle.answers.specs.sketch.Printable.{OnCanvas}
use Rattle.answers.specs.drawings.DrawingLines.{plane_printed, regions_lines, drawing_lines}

drawn-fits : (rs : List (List ℕ)) (o : Outline) → drawing_of rs ≡ Ok o → fits rs ≡ true
unfolding drawing_by size_of
drawn-fits rs o e = by_flag (fits rs) (λ t. t) (λ t. refused-ok (rw t at e))

sheet-fits : (s : List ℕ) (o : Outline) → sheet_of s ≡ Ok o → fits (rows_at s 0) ≡ true
unfolding sheet_by
sheet-fits s o e = go (checked s) refl
  where
    go : (k : Result (Unit {0}) ℕ) → checked s ≡ k → fits (rows_at s 0) ≡ true
    go (Ok tt) f = drawn-fits (rows_at s 0) o (rw f at e)
    go (Err at) f = refused-ok (rw f at e)

-- a sheet that is drawn
module _ (s : List ℕ) (a : Reading Drawing) (e : outline_in a ≡ sheet_of s) where
  module _ {d : Drawing} (t m b g : List ℕ) (l : LayersIn a (rows_at s 0) t m b g) (k : a ≡ Ok d) where
    outlined : sheet_of s ≡ Ok d.outline
    outlined = sym e ∙ ap outline_in k

    shown : Shown (rows_at s 0) d.rows d.columns d.outline.body t m b g
    shown = subst (λ (a : Reading Drawing). LayersIn a (rows_at s 0) t m b g) k l

    pub drawn-size : (d.columns ≤ canvas_columns) × (d.rows ≤ canvas_rows) × (d.rows * d.columns ≤ canvas_size)
    drawn-size =
        let f = fits-size (rows_at s 0) (sheet-fits s d.outline outlined) in
        (rw shown.columns f.0, rw shown.rows f.1, rw (shown.rows, shown.columns) f.2)

    pub drawn-lines : layers_lines (canvas d.columns d.rows t) (canvas d.columns d.rows m) (canvas d.columns d.rows b) (canvas d.columns d.rows g) d.columns d.rows
        ++ regions_lines d.outline (canvas d.columns d.rows g) d.columns d.rows (region_texts_of (canvas d.columns d.rows t) (canvas d.columns d.rows m) d.columns d.rows) ≡ drawing_lines s
    unfolding drawing_lines
    drawn-lines = let q = shown in rw (outlined, q.text, q.thin, q.body, q.grid, q.columns, q.rows)

  pub not_drawn : {r : Refusal} → a ≡ Err r → refused_line (numbers r) ≡ drawing_lines s
  unfolding drawing_lines
  not_drawn {r} k = let q : sheet_of s ≡ Err r = sym e ∙ ap outline_in k in rw q

-- regions that are read
module _ (o : Outline) (grid : Picture) (w h : ℕ) (x : Reading Shape) (r : Reading RegionsRead) (rects bytes spans : List ℕ) (e : regions_in r rects bytes spans ≡ x) where
  lines : (q : Reading Shape) → regions_in r rects bytes spans ≡ q → regions_lines o grid w h q ≡ regions_lines o grid w h x
  lines q k = ap (regions_lines o grid w h) (sym k ∙ e)

  pub read-lines : {g : RegionsRead} → r ≡ Ok g
      → counted_lines (rects_of rects g.count) (texts_in bytes spans g.count) ++ (name_line o.named (texts_in bytes spans g.count) ++ plane_printed (plane_of o (rects_of rects g.count) grid w h))
      ≡ regions_lines o grid w h x
  read-lines k = lines _ (ap (λ (r : Reading RegionsRead). regions_in r rects bytes spans) k)

  pub not_read : {q : Refusal} → r ≡ Err q → refused_line (numbers q) ≡ regions_lines o grid w h x
  not_read k = lines _ (ap (λ (r : Reading RegionsRead). regions_in r rects bytes spans) k)

-- a layer's characters are at most those of the largest canvas
pub canvas_most : {l : Layer} → OnCanvas l → l.height * l.width ≤ canvas_size
canvas_most c = mul-le-mul c.rows c.columns

-- what is printed of a plane that is made, or not
module _ (m : Reading ℕ) (d : List ℕ) (x : Reading Plane) (e : plane_made m d ≡ x) where
  pub made_lines : {n : ℕ} → m ≡ Ok n → plane_lines (plane_in d n) ≡ plane_printed x
  made_lines k = ap plane_printed (sym (ap (λ (m : Reading ℕ). plane_made m d) k) ∙ e)

  pub not_made : {r : Refusal} → m ≡ Err r → refused_line (numbers r) ≡ plane_printed x
  not_made k = ap plane_printed (sym (ap (λ (m : Reading ℕ). plane_made m d) k) ∙ e)

module _ (r : Reading RegionsRead) (bytes spans : List ℕ) {g : RegionsRead} (u : UsedIn r bytes spans) (k : r ≡ Ok g) where
  used_in : UsedIn (Ok g) bytes spans
  used_in = subst (λ (r : Reading RegionsRead). UsedIn r bytes spans) k u

  pub read-total : length (packed (texts_in bytes spans g.count)) ≤ text_bytes
  read-total = let v = used_in in omega (arith, v.1.0, v.1.1.0)

  pub read-few : g.count ≤ region_count
  read-few = used_in.0
