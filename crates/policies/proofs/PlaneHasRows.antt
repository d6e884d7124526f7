-- A plane has the line row of the main crossing, where that stands in the picture: the theorem `plane_has_rows`.
use Rattle.std.specs.Prelude.{Result, Ok, Err}
use mathlib.Core.Path.{◌≡◌, refl, sym, ap, ◌∙◌, subst}
use mathlib.Core.Bool.{Bool, true, false}
use mathlib.Core.List.{List, [], ◌∷◌, ◌++◌}
use Prim.Native.Nat.{ℕ, zero, suc, ◌+◌, ◌≤◌, ◌<◌}
use native.Mathlib.Omega.{arith}
use lib.Dec.{eqb, leb}
use lib.ListN.{length, length-append}
use borrow.Author.Tests.{eqb-false}
use Rattle.lists.specs.Answer.{◌>>=◌, each, those}
use Rattle.lists.specs.Choose.{choose}
use Rattle.lists.specs.Picture.{Picture}
use Rattle.lists.specs.Run.{build}
use Rattle.lists.proofs.AnswerLaws.{refused-ok, then_ok}
use Rattle.lists.proofs.Tests.{by_flag, true_false}
use Rattle.model.specs.Limits.{plane_rows}
use Rattle.model.specs.Refusals.{Reading}
use Rattle.model.specs.declared.Cell.{Cell}
use Rattle.model.specs.declared.Rect.{Rect}
use Rattle.model.specs.declared.Refusal.TheVariants.{OverLimit}
use Rattle.cells.specs.Plane.{Plane}
use Rattle.frames.specs.declared.outline.Outline.{Outline}
use Rattle.frames.specs.regions.Regions.{Finder}
use Rattle.text_planes.specs.plane_cells.Row.{Row, is_at}
use Rattle.text_planes.specs.plane_rows.Rows.{Rows, output_line, annotation_line, add_line}
use Rattle.text_planes.specs.step.PlaneStep.{row_by, add_row, add_frames, add_grid_row, no_rows, rows_by, plane_by}

-- a loop over the numbers at which h holds: what each turn takes one number on, the loop takes from its first number to its end
module _ {R S : Type 0} (h : ℕ → Bool) (f : ℕ → S → Result S R) where
  each_turn : (k : ℕ) (l : List ℕ) (s : S) (b : Bool) → each f (choose b (k ∷ l) l) s ≡ ◌>>=◌ (choose b (f k s) (Ok s)) (each f l)
  unfolding each
  each_turn k l s true = refl
  each_turn k l s false = refl

  pub each_through : (Q : ℕ → S → Type 0) → ((k : ℕ) (s t : S) → choose (h k) (f k s) (Ok s) ≡ Ok t → Q k s → Q (suc k) t)
      → (k n m : ℕ) → k + n ≡ m → (s t : S) → each f (those h k n) s ≡ Ok t → Q k s → Q m t
  unfolding each those
  each_through Q g k zero m i s t e q =
      let z : s ≡ t = cc in
      let j : k ≡ m = omega arith in
      subst (Q m) z (subst (λ (n : ℕ). Q n s) j q)
  each_through Q g k (suc n) m i s t e q =
      let w = then_ok (choose (h k) (f k s) (Ok s)) (each f (those h (suc k) n)) t (sym (each_turn k (those h (suc k) n) s (h k)) ∙ e) in
      each_through Q g (suc k) n m (omega arith) w.0 t w.2 (g k s w.0 w.1 q)

-- no step takes a row away
abbrev Grows : Rows → Rows → Type 0
Grows s t = length s.plane ≤ length t.plane

same_grows : (s t : Rows) → s ≡ t → Grows s t
same_grows s t e = let z = ap (λ (u : Rows). length u.plane) e in omega arith

more_grows : (s t : Rows) (r : List Cell) → s.plane ++ (r ∷ []) ≡ t.plane → length s.plane < length t.plane
more_grows s t r e = rw (← e) (omega (arith, length-append s.plane (r ∷ [])))

-- a line row is one more
line_grows : (line : ℕ → Cell) (s t : Rows) → add_line line s ≡ Ok t → length s.plane < length t.plane
line_grows line s t e = go (leb plane_rows (length s.plane)) e
  where
    go : (b : Bool)
        → choose b (Err OverLimit) (Ok (record { plane = s.plane ++ (build s.width line ∷ []); width = s.width; output = s.output; annotation = s.annotation })) ≡ Ok t
        → length s.plane < length t.plane
    go true e = refused-ok e
    go false e = more_grows s t (build s.width line) cc

line_if : (b : Bool) (line : ℕ → Cell) (s t : Rows) → choose b (add_line line s) (Ok s) ≡ Ok t → Grows s t × (b ≡ true → 0 < length t.plane)
line_if true line s t e = let m = line_grows line s t e in (omega arith, λ _. omega arith)
line_if false line s t e = (same_grows s t cc, λ f. true_false f refl)

row_grows : (s t : Rows) (r : Row) → add_row s r ≡ Ok t → Grows s t
row_grows s t r e = go (eqb (length r.cells) 0) e
  where
    go : (b : Bool) → choose {A = Reading Rows} b (Ok s) (Ok (record { plane = s.plane ++ (r.cells ∷ []); width = length r.cells; output = r.output; annotation = r.annotation })) ≡ Ok t
        → Grows s t
    go true e = same_grows s t cc
    go false e = let m = more_grows s t r.cells cc in omega arith

module _ (o : Outline) (find : Finder) (regions : List Rect) (p : Picture) (w : ℕ) where
  frames_grow : (y : ℕ) (s t : Rows) → add_frames o find regions p w y s ≡ Ok t → Grows s t
  frames_grow y s t e =
      let start : Row = record { cells = []; output = s.output; annotation = s.annotation } in
      let a = then_ok (row_by o find regions p w (length s.plane) y start) (add_row s) t e in
      row_grows s t a.0 a.2

  -- below row y of the main crossing there is a row
  abbrev Lined : ℕ → Rows → Type 0
  Lined y s = o.y < y → 0 < length s.plane

  grid_row_lined : (y : ℕ) (s t : Rows) → add_grid_row o find regions p w y s ≡ Ok t → Lined y s → Lined (suc y) t
  grid_row_lined y s t e q l =
      let below : Rows → Reading Rows = λ a. choose (is_at o.below y) (add_line (annotation_line a.output) a) (Ok a) in
      let a = then_ok (choose (eqb y o.y) (add_line (output_line s.output s.annotation) s) (Ok s)) (λ a. ◌>>=◌ (below a) (add_frames o find regions p w y)) t e in
      let b = then_ok (below a.0) (add_frames o find regions p w y) t a.2 in
      let u = line_if (eqb y o.y) (output_line s.output s.annotation) s a.0 a.1 in
      let v = (line_if (is_at o.below y) (annotation_line a.0.output) a.0 b.0 b.1).0 in
      let f = frames_grow y b.0 t b.2 in
      by_flag (eqb y o.y)
      (λ h. omega (arith, u.1 h, v, f))
      (λ h. let m : o.y < y = omega (arith, eqb-false y o.y h) in omega (arith, q m, u.0, v, f))

  pub plane_has_rows : (h : ℕ) (P : Plane) → plane_by find o regions p w h ≡ Ok P → o.y < h → 0 < length P
  unfolding plane_by
  plane_has_rows h P e l =
      let a = then_ok (rows_by find o regions p w h) (λ s. Ok s.plane) P e in
      let z : a.0.plane ≡ P = let g = a.2 in cc in
      subst (λ (Q : Plane). 0 < length Q) z
      (each_through (λ _. true) (add_grid_row o find regions p w) Lined grid_row_lined 0 h h (omega arith) no_rows a.0 a.1 (λ m. absurd (omega arith)) l)
