-- Lines of a plane in a slice: what stands at a place of one, and the lines of the plane as lists.
use Rattle.std.specs.Prelude.{None, Some}
use mathlib.Core.Path.{◌≡◌, refl, ap, ◌∙◌}
use mathlib.Core.Bool.{true}
use mathlib.Core.List.{List, [], ◌∷◌, map}
use Prim.Native.Nat.{ℕ, zero, suc, ◌+◌, ◌-◌, ◌≤◌, ◌<◌}
use native.Mathlib.Omega.{arith}
use lib.Dec.{ltb}
use lib.ListN.{get_or, drop}
use borrow.Author.Tests.{lt-ltb}
use Rattle.lists.specs.Choose.{choose}
use Rattle.lists.specs.Run.{run, build}
use Rattle.lists.proofs.RunLaws.{build-same, drop-build, drop_build_end, map-run}
use Rattle.cells.specs.Plane.{cell_at, cells_in, row_in, plane_in}
use Rattle.plane.specs.rule_numbers.Numbering.{first, last}
use Rattle.plane.specs.rule_numbers.Line.{slot_of, line_of}
use Rattle.plane.specs.declared.rule_numbers.Line.{Line}
use Rattle.plane.specs.declared.rule_numbers.Line.TheVariants.{FirstColumn, Row}

module _ (d : List ℕ) (line : Line) (n k : ℕ) where
  pub line_at : k < n → drop k (line_of d line n) ≡ slot_of d line k ∷ drop (k + 1) (line_of d line n)
  unfolding line_of
  line_at h = drop-build n (slot_of d line) k h

  pub line_end : n ≤ k → drop k (line_of d line n) ≡ []
  unfolding line_of
  line_end h = drop_build_end n (slot_of d line) k h

-- the ends of a built list
first-build : {A : Type 0} (n : ℕ) (f : ℕ → A) → first (build n f) ≡ choose (ltb 0 n) (Some (f 0)) None
unfolding run
first-build zero f = refl
first-build (suc n) f = let e : ltb 0 (suc n) ≡ true = lt-ltb 0 (suc n) (omega arith) in rw e

last-run : {A : Type 0} (f : ℕ → A) (k n : ℕ) → last (run f k (suc n)) ≡ Some (f (k + n))
unfolding last run
last-run f k zero = let e : k ≡ k + 0 = omega arith in ap (λ (j : ℕ). Some (f j)) e
last-run f k (suc n) = let e : suc k + n ≡ k + suc n = omega arith in last-run f (suc k) n ∙ ap (λ (j : ℕ). Some (f j)) e

-- the first cell of a row
pub first_cell : (d : List ℕ) (row : ℕ) → first (row_in d row) ≡ slot_of d (Row row) 0
unfolding cells_in
first_cell d row = first-build (get_or d row 0) (cell_at d row)

pub first-row : (d : List ℕ) (n : ℕ) → 0 < n → first (plane_in d n) ≡ Some (row_in d 0)
unfolding plane_in
first-row d n h = let e = lt-ltb 0 n h in first-build n (row_in d) ∙ rw e

pub last_row : (d : List ℕ) (n : ℕ) → 0 < n → last (plane_in d n) ≡ Some (row_in d (n - 1))
unfolding plane_in
last_row d n h =
    let e : n ≡ suc (n - 1) = omega arith in
    let z : 0 + (n - 1) ≡ n - 1 = omega arith in
    ap (λ (m : ℕ). last (build m (row_in d))) e ∙ last-run (row_in d) 0 (n - 1) ∙ ap (λ (k : ℕ). Some (row_in d k)) z

-- column 0
pub column-line : (d : List ℕ) (n : ℕ) → map first (plane_in d n) ≡ line_of d FirstColumn n
unfolding plane_in line_of
column-line d n = map-run first (row_in d) 0 n ∙ build-same n (λ i. first (row_in d i)) (slot_of d FirstColumn) (λ i l. first_cell d i)

-- a row
pub row_line : (d : List ℕ) (row : ℕ) → map Some (row_in d row) ≡ line_of d (Row row) (get_or d row 0)
unfolding cells_in line_of
row_line d row =
    map-run Some (cell_at d row) 0 (get_or d row 0)
    ∙ build-same (get_or d row 0) (λ i. Some (cell_at d row i)) (slot_of d (Row row)) (λ i l. let e = lt-ltb i (get_or d row 0) l in rw e)
