-- From the scan, the outline and the layers to what drawing a sheet promises.
use Rattle.std.specs.Prelude.{Ok, Err, Result, ℕ}
use mathlib.Core.Path.{◌≡◌, refl, sym, ◌∙◌}
use mathlib.Core.List.{List}
use Prim.Native.Nat.{ℕ, ◌*◌, ◌≤◌}
use native.Mathlib.Omega.{arith}
use lib.ListN.{length}
use Rattle.lists.specs.Picture.{canvas}
use Rattle.model.specs.Limits.{canvas_size}
use Rattle.model.specs.declared.Rect.{Rect}
use Rattle.model.specs.Refusals.{Reading}
use Rattle.model.specs.declared.Refusal.{Refusal}
use Rattle.model.specs.declared.Refusal.TheVariants.{InvalidUtf8}
use Rattle.canvas.specs.body_layer.Body.{body_picture}
use Rattle.canvas.specs.grid_layer.Grid.{grid_picture}
use Rattle.canvas.specs.thin_layer.Sizes.{BodyIn}
use Rattle.canvas.specs.thin_layer.Thin.{thin_picture}
use Rattle.frames.specs.outline.Outline.{outline_of}
use Rattle.frames.specs.declared.outline.Outline.{Outline}
use Rattle.frames.proofs.outline.InsideLaws.{outline_inside}
use Rattle.scan.specs.sheet_rows.Rows.{rows_at, widest}
use Rattle.scan.specs.declared.sheet_rows.Extent.{Extent}
use Rattle.scan.specs.Canvas.{size_of, text_in, blanks_in, scanned_in}
use Rattle.scan.proofs.Answers.{scanned_size, fits-size}
use Rattle.scan.proofs.TextLayer.{text-canvas, blanks_canvas}
use Rattle.characters.specs.utf8.Utf8.{checked, on_text}
use Rattle.walks.specs.Frame.{frame_of}
use Rattle.canvas.specs.Layers.{text_layer, drawing_by, drawing_of, sheet_by, sheet_of}
use Rattle.canvas.specs.Drawn.{Shown}

pub ill_formed : (s : List ℕ) (at : ℕ) → checked s ≡ Err at → Err (InvalidUtf8 at) ≡ sheet_of s
unfolding sheet_by
ill_formed s at e = rw e

pub well_formed_lem : (s : List ℕ) (d : Reading Outline) → checked s ≡ Ok tt → d ≡ drawing_of (rows_at s 0) → d ≡ sheet_of s
unfolding sheet_by
well_formed_lem s d e f = f ∙ rw e

pub scan_refused : (rs : List (List ℕ)) (r : Refusal) → scanned_in (Err r) ≡ size_of rs → Err r ≡ drawing_of rs
unfolding drawing_by
scan_refused rs r e = rw (← e)

-- number 1 comes before that
pub refused-behind : (s : List ℕ) (c : Result (Unit {0}) ℕ) (r x : Refusal) → c ≡ checked s → x ≡ on_text c InvalidUtf8 r → Err r ≡ drawing_of (rows_at s 0) → Err x ≡ sheet_of s
unfolding sheet_by
refused-behind s c r x e f g = rw (f, ← e) (go c)
  where
    go : (c : Result (Unit {0}) ℕ) → Err (on_text c InvalidUtf8 r) ≡ on_text c (λ at. Err (InvalidUtf8 at)) (drawing_of (rows_at s 0))
    go (Ok u) = g
    go (Err at) = refl

module _ (rs : List (List ℕ)) (a : Extent) (e : scanned_in (Ok a) ≡ size_of rs) where
  pub canvas-fits : a.rows * a.columns ≤ canvas_size
  canvas-fits = let q = scanned_size rs a e in rw (q.1, q.2) (fits-size rs q.0).2

  pub columns_fit : a.columns ≤ 65536
  columns_fit = let q = scanned_size rs a e in omega (arith, fits-size rs q.0)

  pub rows_fit : a.rows ≤ 65536
  rows_fit = let q = scanned_size rs a e in omega (arith, fits-size rs q.0)

  module _ (d t : List ℕ) (f : t ≡ text_in rs d) where
    pub text_shown : canvas a.columns a.rows t ≡ text_layer rs
    text_shown = let q = scanned_size rs a e in rw (q.1, q.2, f) (text-canvas rs d q.0)

    outline_is : outline_of (canvas a.columns a.rows t) a.columns a.rows ≡ drawing_of rs
    unfolding drawing_by
    outline_is = rw (← e, text_shown)

    pub outline_refused : (r : Refusal) → Err r ≡ outline_of (canvas a.columns a.rows t) a.columns a.rows → Err r ≡ drawing_of rs
    outline_refused r g = g ∙ outline_is

    pub outlined : (o : Outline) → Ok o ≡ outline_of (canvas a.columns a.rows t) a.columns a.rows → Ok o ≡ drawing_of rs
    outlined o g = g ∙ outline_is

    pub body_in : (o : Outline) → Ok o ≡ outline_of (canvas a.columns a.rows t) a.columns a.rows → BodyIn a.columns a.rows o.body
    body_in o g =
        let b = (outline_inside frame_of (canvas a.columns a.rows t) a.columns a.rows o (sym g)).body in
        record { wide = omega (arith, b.left, b.right); within = b.columns; tall = omega (arith, b.top, b.bottom); inside = b.rows }

    -- the four layers
    pub shown : (r : Rect) (c b m b' g : List ℕ) → b ≡ blanks_in rs c
        → canvas a.columns a.rows m ≡ thin_picture a.columns a.rows (canvas a.columns a.rows t)
        → canvas a.columns a.rows b' ≡ body_picture r (thin_picture a.columns a.rows (canvas a.columns a.rows t)) (canvas a.columns a.rows b)
        → canvas a.columns a.rows g ≡ grid_picture r (body_picture r (thin_picture a.columns a.rows (canvas a.columns a.rows t)) (canvas a.columns a.rows b))
        → Shown rs a.rows a.columns r t m b' g
    shown r c b m b' g k i j l =
        let q = scanned_size rs a e in
        let x = text_shown in
        let y : canvas a.columns a.rows b ≡ canvas (widest rs) (length rs) (blanks_in rs c) = rw (q.1, q.2, k) in
        let z = y ∙ blanks_canvas rs c q.0 in
        record {
          rows = q.1;
          columns = q.2;
          text = x;
          thin = i ∙ rw (x, q.1, q.2);
          body = j ∙ rw (x, z, q.1, q.2);
          grid = l ∙ rw (x, z, q.1, q.2);
        }
