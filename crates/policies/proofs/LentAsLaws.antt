-- Document 01: a plane "is lent with its own row lengths and the same regions and texts". Its slices are well-formed and give it back.
use Rattle.std.specs.Prelude.{Ok}
use mathlib.Core.Path.{◌≡◌, refl, sym, ap, ◌∙◌, subst}
use mathlib.Core.Bool.{Bool, true, ◌&&◌}
use mathlib.Core.List.{List, [], ◌∷◌, map, flatten}
use Prim.Native.Nat.{ℕ, zero, suc, ◌+◌, ◌≤◌, ◌<◌}
use native.Mathlib.Numerals.{add-one}
use native.Mathlib.Omega.{arith}
use borrow.Author.Tests.{le-leb, lt-ltb, ltb-true, ltb-false, eq-eqb}
use lib.Dec.{ltb}
use lib.ListN.{length, get_or, length-append, length-map}
use lib.Seq.{take-append_seam, drop-append_seam}
use Rattle.lists.specs.Run.{build}
use Rattle.lists.proofs.AllLaws.{All, all_append, all-at}
use Rattle.lists.proofs.AnswerLaws.{refused-ok}
use Rattle.lists.proofs.RunLaws.{length_run, build-same, get_or_run_out, get_or-build, build-get_or, get_d_map}
use Rattle.lists.proofs.Tests.{by_flag, both}
use Rattle.model.specs.Cells.{cell_of_kind, kind_of}
use Rattle.model.specs.Limits.{plane_rows, plane_cells}
use Rattle.model.specs.declared.Cell.{Cell}
use Rattle.model.specs.declared.Cell.TheVariants.{Region, VerticalOutputDoubleLine, VerticalAnnotationDoubleLine, HorizontalOutputDoubleLine, HorizontalAnnotationsDoubleLine, MainDoubleCrossing, HorizontalDoubleCrossing, VerticalDoubleCrossing}
use Rattle.cells.specs.Plane.{Plane, TextPlane}
use Rattle.plane.specs.lent.LentPlane.{LentPlane, sum, cut, all_at, known_cell, within_limits, counts_agree, cells_known, parts_good, well_formed, lent_cells, lent_text, lent_of}
use Rattle.plane.proofs.lent.AllAtLaws.{all_start, all_more}
use Rattle.plane.proofs.lent.CountLaws.{sizes_decide}
use Rattle.plane.proofs.lent.CutLaws.{row_cells, cut-rows}
use Rattle.plane.proofs.lent.FormLaws.{parts_decide, region-known, regions-few, rows_good, parts_good_lem}
use Rattle.plane.proofs.lent.KindLaws.{lent_cell, kind-region, known_at}
use Rattle.plane.proofs.lent.LimitLaws.{short, rows_decide}
use Rattle.plane.proofs.lent.SumLaws.{start_of, row_within}
use Rattle.plane.proofs.RegionsKept.{RegionsBelow}
use Rattle.policies.specs.TurnedPlane.{region_number, lent_as}

-- a plane that can be lent with `count` regions
pub record Lendable (count : ℕ) (P : Plane) : Type 0 where
  pub few : length P ≤ plane_rows
  pub short : (i : ℕ) → length (get_or P i []) ≤ plane_cells
  pub regions : RegionsBelow count P

-- a test that holds at each place
all-each : (f : ℕ → Bool) (n : ℕ) → ((k : ℕ) → k < n → f k ≡ true) → all_at f n ≡ true
all-each f zero h = all_start f
all-each f (suc n) h = ap (all_at f) (sym (add-one n)) ∙ all_more f n (all-each f n (λ k l. h k (omega arith))) (h n (omega arith))

-- what holds at each place of a built list, and of what stands for a place that is not there
pub built : {A : Type 0} (Q : A → Type 0) (n : ℕ) (f : ℕ → A) (d : A) → Q d → ((i : ℕ) → i < n → Q (f i)) → (i : ℕ) → Q (get_or (build n f) i d)
built Q n f d q h i =
    by_flag (ltb i n) (λ y. rw (get_or-build n f i d (ltb-true i n y)) (h i (ltb-true i n y))) (λ z. rw (get_or_run_out f 0 n i d (ltb-false i n z)) q)

-- the rows one behind the other, cut again
sum_flatten : (P : Plane) → length (flatten P) ≡ sum (map length P)
unfolding flatten sum
sum_flatten [] = refl
sum_flatten (r ∷ P) = length-append r (flatten P) ∙ ap (λ (n : ℕ). length r + n) (sum_flatten P)

cut_flatten : (P : Plane) → cut (map length P) (flatten P) ≡ P
unfolding flatten cut
cut_flatten [] = refl
cut_flatten (r ∷ P) =
    let a = take-append_seam r (flatten P) in
    let b = drop-append_seam r (flatten P) in
    rw (a, b) (ap (λ (Q : Plane). r ∷ Q) (cut_flatten P))

-- a cell by its kind and its region number
cell_kept : (c : Cell) → cell_of_kind (kind_of c) (region_number c) ≡ c
cell_kept (Region r) = refl
cell_kept VerticalOutputDoubleLine = refl
cell_kept VerticalAnnotationDoubleLine = refl
cell_kept HorizontalOutputDoubleLine = refl
cell_kept HorizontalAnnotationsDoubleLine = refl
cell_kept MainDoubleCrossing = refl
cell_kept HorizontalDoubleCrossing = refl
cell_kept VerticalDoubleCrossing = refl

module _ (F : List Cell) (k : ℕ) (h : k < length F) where
  kind_at : get_or (map kind_of F) k 0 ≡ kind_of (get_or F k MainDoubleCrossing)
  kind_at = get_d_map kind_of F k MainDoubleCrossing 0 h

  region-at : get_or (map region_number F) k 0 ≡ region_number (get_or F k MainDoubleCrossing)
  region-at = get_d_map region_number F k MainDoubleCrossing 0 h

cells-kept : (F : List Cell) → build (length (map kind_of F)) (lent_cell (map kind_of F) (map region_number F)) ≡ F
cells-kept F =
    ap (λ (n : ℕ). build n (lent_cell (map kind_of F) (map region_number F))) (length-map F kind_of)
    ∙ build-same (length F) (lent_cell (map kind_of F) (map region_number F)) (λ k. get_or F k MainDoubleCrossing)
    (λ k h. rw (kind_at F k h, region-at F k h) (cell_kept (get_or F k MainDoubleCrossing)))
    ∙ build-get_or F MainDoubleCrossing

module _ (count : ℕ) where
  -- the number of a region is below the count
  abbrev pub RegionBelow : Cell → Type 0
  RegionBelow c = (r : ℕ) → c ≡ Region r → r < count

  pub crossing_below : RegionBelow MainDoubleCrossing
  crossing_below r e = let z : ◌≡◌ {A = ℕ} 0 1 = cc in absurd (omega arith)

  row_below : (l : List Cell) → ((i : ℕ) → RegionBelow (get_or l i MainDoubleCrossing)) → All RegionBelow l
  unfolding All
  row_below [] f = tt
  row_below (c ∷ l) f = (f 0, row_below l (λ i. f (suc i)))

  cells_below : (P : Plane) → RegionsBelow count P → All RegionBelow (flatten P)
  unfolding All flatten
  cells_below [] f = tt
  cells_below (l ∷ P) f = all_append RegionBelow l (flatten P) (row_below l (f 0)) (cells_below P (λ row. f (suc row)))

  cell_known : (c : Cell) → RegionBelow c → known_cell count (kind_of c) (region_number c) ≡ true
  cell_known (Region r) h = lt-ltb r count (h r refl)
  cell_known VerticalOutputDoubleLine h = refl
  cell_known VerticalAnnotationDoubleLine h = refl
  cell_known HorizontalOutputDoubleLine h = refl
  cell_known HorizontalAnnotationsDoubleLine h = refl
  cell_known MainDoubleCrossing h = refl
  cell_known HorizontalDoubleCrossing h = refl
  cell_known VerticalDoubleCrossing h = refl

  cells-known : (F : List Cell) → All RegionBelow F → cells_known count (map kind_of F) (map region_number F) ≡ true
  cells-known F a = all-each (known_at count (map kind_of F) (map region_number F)) (length (map kind_of F)) known
    where
      known : (k : ℕ) → k < length (map kind_of F) → known_at count (map kind_of F) (map region_number F) k ≡ true
      known k h =
          let n = length-map F kind_of in
          let b : k < length F = omega arith in
          rw (kind_at F k b, region-at F k b) (cell_known (get_or F k MainDoubleCrossing) (all-at RegionBelow F a k MainDoubleCrossing b))

module _ (l : LentPlane) where
  -- what a lent plane that is not refused is
  pub lent_ok : (t : TextPlane) → lent_of l ≡ Ok t → (well_formed l ≡ true) × (t ≡ record { plane = cut l.rows (lent_cells l); texts = build (length l.offsets) (lent_text l) })
  unfolding lent_of
  lent_ok t e = by_flag (well_formed l) (λ q. (q, sym (taken q))) (λ q. refused-ok (rw q at e))
    where
      taken : well_formed l ≡ true → record { plane = cut l.rows (lent_cells l); texts = build (length l.offsets) (lent_text l) } ≡ t
      taken q = let z = rw q at e in cc

  module _ (e : well_formed l ≡ true) (P : Plane) (p : Lendable (length l.offsets) P) where
    row-short : (i : ℕ) → i < length (map length P) → short (map length P) i ≡ true
    row-short i h =
        let n = length-map P length in
        let b : i < length P = omega arith in
        rw (get_d_map length P i [] 0 b) (le-leb (length (get_or P i [])) plane_cells (p.short i))

    limits_kept : within_limits (map length P) l.offsets l.bytes ≡ true
    limits_kept =
        let n = length-map P length in
        let f = p.few in
        sym (rows_decide (map length P) l.offsets l.bytes (omega arith) (regions-few l e) (parts_good_lem l e).few true
        (sym (all-each (short (map length P)) (length (map length P)) row-short)))

    counts_kept : counts_agree (map length P) (map kind_of (flatten P)) (map region_number (flatten P)) l.offsets l.sizes ≡ true
    counts_kept =
        sym (sizes_decide (map length P) (map kind_of (flatten P)) (map region_number (flatten P)) l.offsets l.sizes (length (flatten P)) (sum_flatten P)
        (length-map (flatten P) kind_of) (length-map (flatten P) region_number))
        ∙ eq-eqb (length l.sizes) (length l.offsets) (parts_good_lem l e).same

    parts-kept : parts_good l.offsets l.sizes l.bytes ≡ true
    parts-kept =
        let counts = within_limits l.rows l.offsets l.bytes && counts_agree l.rows l.kinds l.regions l.offsets l.sizes in
        let known = cells_known (length l.offsets) l.kinds l.regions in
        let good = parts_good l.offsets l.sizes l.bytes in
        (both known good (both counts (known && good) e).1).1

    form_kept : well_formed (lent_as l P) ≡ true
    form_kept =
        sym (parts_decide (lent_as l P) limits_kept counts_kept (cells-known (length l.offsets) (flatten P) (cells_below (length l.offsets) P p.regions)) true (sym parts-kept))

    plane-kept : cut (map length P) (lent_cells (lent_as l P)) ≡ P
    plane-kept = ap (cut (map length P)) (cells-kept (flatten P)) ∙ cut_flatten P

  pub lent_as_lem : (t : TextPlane) (P : Plane) → lent_of l ≡ Ok t → Lendable (length l.offsets) P → lent_of (lent_as l P) ≡ Ok (record { plane = P; texts = t.texts })
  unfolding lent_of
  lent_as_lem t P e p =
      let w = lent_ok t e in
      let f = form_kept w.0 P p in
      let k = plane-kept w.0 P p in
      let x : build (length l.offsets) (lent_text l) ≡ t.texts = sym (ap (λ (u : TextPlane). u.texts) w.1) in
      rw (f, k, x)

  -- the plane that l itself lends
  abbrev cells : ℕ → Cell
  cells = lent_cell l.kinds l.regions

  abbrev rows : Plane
  rows = build (length l.rows) (row_cells l.rows cells)

  abbrev Known : Cell → Type 0
  Known = RegionBelow (length l.offsets)

  module _ (e : well_formed l ≡ true) where
    cell_below : (k : ℕ) → k < length l.kinds → Known (cells k)
    cell_below k h r q =
        let z = kind-region (get_or l.kinds k 0) (get_or l.regions k 0) r q in
        omega (arith, z.1, region-known l e k h z.0)

    lent_row_below : (row : ℕ) → row < length l.rows → (i : ℕ) → Known (get_or (row_cells l.rows cells row) i MainDoubleCrossing)
    lent_row_below row h =
        built Known (get_or l.rows row 0) (λ i. cells (start_of l.rows row + i)) MainDoubleCrossing (crossing_below (length l.offsets))
        (λ i b. cell_below (start_of l.rows row + i) (omega (arith, row_within l.rows row h, (rows_good l e).total)))

    lent_row_short : (row : ℕ) → row < length l.rows → length (row_cells l.rows cells row) ≤ plane_cells
    lent_row_short row h = rw (length_run (λ i. cells (start_of l.rows row + i)) 0 (get_or l.rows row 0)) ((rows_good l e).short row h)

    rows_lendable : Lendable (length l.offsets) rows
    rows_lendable =
        record {
          few = omega (arith, length_run (row_cells l.rows cells) 0 (length l.rows), (rows_good l e).few);
          short = built (λ r. length r ≤ plane_cells) (length l.rows) (row_cells l.rows cells) [] (omega arith) lent_row_short;
          regions =
              built (λ r. (i : ℕ) → Known (get_or r i MainDoubleCrossing)) (length l.rows) (row_cells l.rows cells) [] (λ i. crossing_below (length l.offsets))
              lent_row_below;
        }

    pub lent_lendable : Lendable (length l.offsets) (cut l.rows (lent_cells l))
    lent_lendable = subst (Lendable (length l.offsets)) (cut-rows l.rows (length l.kinds) cells (rows_good l e).total) rows_lendable
