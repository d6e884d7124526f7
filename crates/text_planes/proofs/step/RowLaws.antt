-- The cells of a frame whose number is known, and a row of frames that is being made.
use Rattle.std.specs.Prelude.{Ok, Err, ℕ}
use mathlib.Core.Path.{◌≡◌, refl, sym, ap, ◌∙◌, subst}
use mathlib.Core.Bool.{Bool, true}
use mathlib.Core.List.{List, []}
use Prim.Native.Nat.{ℕ, ◌+◌, ◌-◌, ◌*◌, ◌/◌, ◌%◌, ◌≤◌, ◌<◌}
use native.Mathlib.Nat.{sub-zero, add-zero, mod-eq_of_lt, div-eq_of_lt, mul-add-div_right, mul-add-mod_self_right}
use native.Mathlib.Omega.{arith}
use lib.ListN.{length, get_or}
use borrow.Author.Tests.{lt-ltb, le-ltb}
use Rattle.lists.specs.Answer.{◌>>=◌, each, those}
use Rattle.lists.specs.Choose.{choose}
use Rattle.lists.specs.Picture.{Picture, pic, canvas}
use Rattle.lists.specs.Run.{run}
use Rattle.lists.proofs.AnswerLaws.{those-from, turn_on, turn_out, turn_end}
use Rattle.lists.proofs.PictureLaws.{within_in, place-fits}
use Rattle.model.specs.Refusals.{Reading}
use Rattle.model.specs.declared.Rect.{Rect}
use Rattle.model.specs.declared.Refusal.{Refusal}
use Rattle.cells.specs.Plane.{cells_in}
use Rattle.cells.specs.Written.{Kept}
use Rattle.cells.specs.declared.plane_writer.PlaneWriter.{PlaneWriter}
use Rattle.cells.proofs.WriterLaws.{same_kept, then_kept}
use Rattle.frames.specs.declared.outline.Outline.{Outline}
use Rattle.frames.specs.regions.Corners.{corner_in, NextCorner}
use Rattle.frames.specs.regions.Regions.{Finder, is_corner}
use Rattle.frames.specs.lookup.Lookup.{region_of, first_in, number_of, Numbered}
use Rattle.frames.proofs.lookup.FirstLaws.{region-first}
use Rattle.walks.specs.Frame.{frame_of}
use Rattle.walks.specs.Kinds.{grid}
use Rattle.text_planes.specs.plane_cells.Made.{row_of, row_made, RowFit, RowFits}
use Rattle.text_planes.specs.plane_cells.Row.{Row, fitting, with_cell}
use Rattle.text_planes.specs.declared.plane_cells.Doubles.{Doubles}
use Rattle.text_planes.specs.declared.plane_cells.RowSofar.{RowSofar}
use Rattle.text_planes.specs.step.Made.{no_region, Over}
use Rattle.text_planes.specs.step.PlaneStep.{add_cell, row_by}

-- place y * w + x of a picture of w columns is column x of row y
pub place_mod : (w x y : ℕ) → x < w → (y * w + x) % w ≡ x
place_mod w x y l = mul-add-mod_self_right y w x ∙ mod-eq_of_lt l

pub place_div : (w x y : ℕ) → x < w → (y * w + x) / w ≡ y
place_div w x y l = mul-add-div_right (omega arith) y x ∙ rw (div-eq_of_lt l, add-zero y)

-- the number k of the frame in column x of row y tells whether a region contains it
module _ (o : Outline) (find : Finder) (rs : List Rect) (row y x : ℕ) (s : Row) (k : ℕ) (e : k ≡ number_of find rs x y) where
  pub with_region : k < length rs → fitting row (with_cell o x k s) ≡ add_cell o find rs row y x s
  with_region l = go (find x y) e
    where
      go : (m : Reading Rect) → k ≡ first_in rs m → fitting row (with_cell o x k s) ≡ ◌>>=◌ m (λ f. ◌>>=◌ (region_of rs f) (λ i. fitting row (with_cell o x i s)))
      go (Ok f) q = rw (region-first rs f, ← q, lt-ltb k (length rs) l)
      go (Err r) q = absurd (omega (arith, q))

  pub no_region_lem : length rs ≤ k → Err (no_region (find x y)) ≡ add_cell o find rs row y x s
  no_region_lem l = go (find x y) e
    where
      go : (m : Reading Rect) → k ≡ first_in rs m → Err (no_region m) ≡ ◌>>=◌ m (λ f. ◌>>=◌ (region_of rs f) (λ i. fitting row (with_cell o x i s)))
      go (Ok f) q = rw (region-first rs f, ← q, le-ltb k (length rs) l)
      go (Err r) q = refl

-- the number that stands at a corner
pub number_at : (find : Finder) (rs : List Rect) (w h : ℕ) (l found : List ℕ) (x y : ℕ) → x < w → y < h → is_corner (canvas w h l x y) ≡ true → Numbered find rs (canvas w h l) w (h * w) found
    → get_or found (y * w + x) 0 ≡ number_of find rs x y
number_at find rs w h l found x y a b c n =
    let m = place_mod w x y a in
    let d = place_div w x y a in
    rw (m, d) at (n (y * w + x) (place-fits h w x y (h * w) a b (omega arith)) (rw (m, d) c))

-- the next corner of a row by its place, and by its column
pub corner-column : (l : List ℕ) (w x y k : ℕ) → NextCorner (corner_in l) (y * w + w) (y * w + x) k → NextCorner (λ i. is_corner (pic w l i y)) w x (k - y * w)
corner-column l w x y k q =
    let z : y * w + (k - y * w) ≡ k = omega (arith, q.from) in
    record {
      from = omega (arith, q.from);
      to = omega (arith, q.to);
      clear = λ j a b. q.clear (y * w + j) (omega arith) (omega (arith, q.from));
      found = λ b. ap (corner_in l) z ∙ q.found (omega (arith, q.from));
    }

-- the same on the canvas
corner-canvas : (l : List ℕ) (w h x y k : ℕ) → y < h → NextCorner (λ i. is_corner (pic w l i y)) w x k → NextCorner (λ i. is_corner (canvas w h l i y)) w x k
corner-canvas l w h x y k v q =
    record {
      from = q.from;
      to = q.to;
      clear = λ j a b. ap is_corner (within_in w h (pic w l) j y (omega (arith, q.to)) v) ∙ q.clear j a b;
      found = λ b. ap is_corner (within_in w h (pic w l) k y b v) ∙ q.found b;
    }

-- the frames before column x of row y are in the row s, and the next starts there
pub record Filling (o : Outline) (w h count : ℕ) (l found : List ℕ) (y : ℕ) (d : PlaneWriter) (s₀ : RowSofar) (out : PlaneWriter) (x : ℕ) (s : RowSofar) : Type 0 where
  pub starts : x < w → is_corner (canvas w h l x y) ≡ true
  pub kept : Kept d out
  pub fits : RowFit s out.rows
  pub same : Over w h count l found (λ rs.
      each (add_cell o (frame_of grid (canvas w h l) w h) rs d.rows y) (those (λ i. is_corner (canvas w h l i y)) x (w - x)) (row_of s out)
      ≡ row_by o (frame_of grid (canvas w h l) w h) rs (canvas w h l) w d.rows y (record { cells = []; output = s₀.doubles.output; annotation = s₀.doubles.annotation }))

-- from column i on there is no frame before that of the next corner
skipped : (o : Outline) (w h : ℕ) (l : List ℕ) (row y i k : ℕ) (s : Row) → NextCorner (λ j. is_corner (canvas w h l j y)) w i k → (rs : List Rect)
    → each (add_cell o (frame_of grid (canvas w h l) w h) rs row y) (those (λ j. is_corner (canvas w h l j y)) k (w - k)) s
    ≡ each (add_cell o (frame_of grid (canvas w h l) w h) rs row y) (those (λ j. is_corner (canvas w h l j y)) i (w - i)) s
skipped o w h l row y i k s q rs =
    ap (λ (xs : List ℕ). each (add_cell o (frame_of grid (canvas w h l) w h) rs row y) xs s) (sym (those-from (λ j. is_corner (canvas w h l j y)) w i k q.from q.to q.clear))

pub filling_start : (o : Outline) (w h count : ℕ) (l found : List ℕ) (y : ℕ) (d : PlaneWriter) (t : Doubles) (x : ℕ) → y < h → NextCorner (λ i. is_corner (pic w l i y)) w 0 x
    → Filling o w h count l found y d (record { cells = 0; doubles = t }) d x (record { cells = 0; doubles = t })
unfolding cells_in run
filling_start o w h count l found y d t x v q =
    let c = corner-canvas l w h 0 y x v q in
    record {
      starts = c.found;
      kept = same_kept d;
      fits = record { few = omega arith; low = λ z. absurd (omega arith) };
      same = λ rs n m. skipped o w h l d.rows y 0 x (row_of (record { cells = 0; doubles = t }) d) c rs ∙ rw (sub-zero w);
    }

module _ {o : Outline} {w h count : ℕ} {l found : List ℕ} {y : ℕ} {d : PlaneWriter} {s₀ : RowSofar} {out : PlaneWriter} {x : ℕ} {s : RowSofar} (q : Filling o w h count l found y d s₀ out x s) where
  abbrev p : Picture
  p = canvas w h l

  abbrev add : List Rect → ℕ → Row → Reading Row
  add rs = add_cell o (frame_of grid p w h) rs d.rows y

  abbrev corner : ℕ → Bool
  corner i = is_corner (p i y)

  abbrev whole : List Rect → Reading Row
  whole rs = row_by o (frame_of grid p w h) rs p w d.rows y (record { cells = []; output = s₀.doubles.output; annotation = s₀.doubles.annotation })

  module _ (g : x < w) (r : Reading RowSofar) (b : PlaneWriter)
      (e : Over w h count l found (λ rs. row_made r b ≡ add_cell o (frame_of grid p w h) rs out.rows y x (row_of s out))) (k : Kept out b) where
    added : {m : (Reading RowSofar)} → r ≡ m → Over w h count l found (λ rs. choose (corner x) (add rs x (row_of s out)) (Ok (row_of s out)) ≡ row_made m b)
    added z rs n m =
        let i : row_made r b ≡ add rs x (row_of s out) = e rs n m ∙ ap (λ (j : ℕ). add_cell o (frame_of grid p w h) rs j y x (row_of s out)) q.kept.rows in
        rw (q.starts g) (sym i ∙ ap (λ (a : Reading RowSofar). row_made a b) z)

    pub filling_more : RowFits r b.rows → (t : RowSofar) → r ≡ Ok t → (i : ℕ) → y < h → NextCorner (λ j. is_corner (pic w l j y)) w (x + 1) i
        → Filling o w h count l found y d s₀ b i t
    filling_more f t z i v u =
        let c = corner-canvas l w h (x + 1) y i v u in
        record {
          starts = c.found;
          kept = then_kept q.kept k;
          fits = subst (λ (m : Reading RowSofar). RowFits m b.rows) z f;
          same = λ rs n m.
              skipped o w h l d.rows y (x + 1) i (row_of t b) c rs ∙ sym (turn_on (add rs) corner x w (row_of s out) (row_of t b) g (added z rs n m)) ∙ q.same rs n m;
        }

    pub filling_out : (f : Refusal) → r ≡ Err f → Over w h count l found (λ rs. Err f ≡ whole rs) × Kept d b
    filling_out f z = (
      λ rs n m. sym (turn_out (add rs) corner x w (row_of s out) f g (added z rs n m)) ∙ q.same rs n m,
      then_kept q.kept k,
    )

  pub filling_end : w ≤ x → Over w h count l found (λ rs. Ok (row_of s out) ≡ whole rs)
  filling_end g rs n m = sym (turn_end (add rs) corner x w (row_of s out) g) ∙ q.same rs n m
