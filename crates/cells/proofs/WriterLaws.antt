-- A row written cell by cell, and a plane row by row.
use Rattle.std.specs.Prelude.{Ok}
use mathlib.Core.Path.{◌≡◌, refl, sym, ap, ◌∙◌, subst}
use mathlib.Core.List.{List, [], ◌∷◌, ◌++◌}
use Prim.Native.Nat.{ℕ, ◌+◌, ◌≤◌}
use native.Mathlib.Omega.{arith}
use Rattle.lists.specs.Run.{run, build}
use Rattle.lists.proofs.RunLaws.{build-next}
use Rattle.model.specs.Refusals.{Reading}
use Rattle.model.specs.declared.Cell.{Cell}
use Rattle.cells.specs.Plane.{Plane, cells_in, plane_in, PlaneFits, KeptBefore}
use Rattle.cells.specs.Written.{written, next_row, SameSlice, Kept, Ended, Holds}
use Rattle.cells.specs.declared.plane_writer.PlaneWriter.{PlaneWriter}
use Rattle.cells.proofs.PlaneLaws.{kept_refl, kept_then, kept-plane}

pub same_kept : (w : PlaneWriter) → Kept w w
same_kept w = record { same = refl; rows = refl; before = kept_refl w.cells.now w.rows }

pub then_kept : {a b c : PlaneWriter} → Kept a b → Kept b c → Kept a c
then_kept {a} {b} {c} p q =
    record {
      same = q.same ∙ p.same;
      rows = q.rows ∙ p.rows;
      before = kept_then _ _ _ a.rows p.before (subst (λ (n : ℕ). KeptBefore b.cells.now c.cells.now n) p.rows q.before);
    }

pub kept-written : {a b : PlaneWriter} → Kept a b → written b ≡ written a
kept-written {a} {b} k = ap (plane_in b.cells.now) k.rows ∙ kept-plane a.cells.now b.cells.now a.rows k.before a.fits.rows a.fits.cells

-- what a writer says of its slice d
module _ {d : List ℕ} (w : PlaneWriter) (e : d ≡ w.cells.now) where
  pub fits_at : PlaneFits d w.rows
  fits_at = rw e w.fits

  pub read_at : {m : Reading Plane} → Ok (written w) ≡ m → Ok (plane_in d w.rows) ≡ m
  read_at q = rw e q

-- the same where n rows are written
module _ {d : List ℕ} (w : PlaneWriter) {n : ℕ} (h : w.rows ≡ n) (e : d ≡ w.cells.now) where
  pub fits_as : PlaneFits d n
  fits_as = rw (e, ← h) w.fits

  pub plane_as : {P : Plane} → written w ≡ P → plane_in d n ≡ P
  plane_as q = rw (e, ← h) q

-- t, which was s, has g 0, .., g (n - 1) as the first cells of its next row
pub record RowWritten (g : ℕ → Cell) (s t : PlaneWriter) (n : ℕ) : Type 0 where
  pub kept : Kept s t
  pub cells : next_row t n ≡ build n g

module _ (g : ℕ → Cell) (s : PlaneWriter) where
  pub row-begun : RowWritten g s s 0
  unfolding cells_in run
  row-begun = record { kept = same_kept s; cells = refl }

module _ {g : ℕ → Cell} {s t : PlaneWriter} {i : ℕ} (f : RowWritten g s t i) where
  pub row-more : {u : PlaneWriter} {c : Cell} → c ≡ g i → next_row u (i + 1) ≡ next_row t i ++ (c ∷ []) → Kept t u → RowWritten g s u (i + 1)
  row-more e q k =
      record {
        kept = then_kept f.kept k;
        cells = q ∙ rw (f.cells, e) (sym (build-next i g));
      }

  pub row-full : (n : ℕ) → i ≤ n → n ≤ i → RowWritten g s t n
  row-full n h k = let e : i ≡ n = omega arith in subst (λ (m : ℕ). RowWritten g s t m) e f

-- t, which was s, has g 0, .., g (n - 1) as its rows
pub record PlaneWritten (g : ℕ → List Cell) (s t : PlaneWriter) (n : ℕ) : Type 0 where
  pub same : SameSlice s t
  pub rows : t.rows ≡ n
  pub plane : written t ≡ build n g

module _ (g : ℕ → List Cell) (s : PlaneWriter) where
  pub plane-begun : s.rows ≡ 0 → PlaneWritten g s s 0
  unfolding plane_in run
  plane-begun e = record { same = refl; rows = e; plane = rw e }

module _ {g : ℕ → List Cell} {s t : PlaneWriter} {n : ℕ} (f : PlaneWritten g s t n) where
  pub plane-more : {u v : PlaneWriter} {m : ℕ} → Kept t u → next_row u m ≡ g n → Ended u v m → PlaneWritten g s v (n + 1)
  plane-more k e d =
      record {
        same = d.same ∙ k.same ∙ f.same;
        rows = omega (arith, d.rows, k.rows, f.rows);
        plane = d.plane ∙ rw (kept-written k, f.plane, e) (sym (build-next n g));
      }

  pub plane-full : (m : ℕ) → n ≤ m → m ≤ n → Holds s t (build m g)
  plane-full m h k = let e : n ≡ m = omega arith in record { same = f.same; plane = f.plane ∙ ap (λ (i : ℕ). build i g) e }
