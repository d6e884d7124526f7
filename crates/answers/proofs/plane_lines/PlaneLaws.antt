-- A plane that is being printed.
use mathlib.Core.Path.{◌≡◌, sym, ap, ◌∙◌}
use mathlib.Core.List.{List, [], ◌∷◌, ◌++◌, map, append_assoc, append-nil, map-append}
use Prim.Native.Nat.{ℕ, ◌+◌, ◌*◌, ◌≤◌, ◌<◌}
use native.Mathlib.Omega.{arith}
use lib.ListN.{length, get_or, length-map}
use Rattle.lists.specs.Run.{run}
use Rattle.model.specs.Cells.{cell_number}
use Rattle.model.specs.Limits.{plane_rows, plane_cells}
use Rattle.model.specs.declared.Cell.{Cell}
use Rattle.cells.specs.Plane.{Plane, cell_at, cells_in, row_in, plane_in}
use Rattle.cells.proofs.PlaneLaws.{cells-next, plane-next, length-cells, length-plane}
use Rattle.print.specs.Decimal.{decimal, spaced, listed, Written}
use Rattle.print.specs.Lines.{line_feed, count_line}
use Rattle.print.proofs.DecimalLaws.{spaced_snoc}
use Rattle.print.proofs.WrittenLaws.{written_nil, written_then, written_within, written_as}
use Rattle.answers.specs.plane_lines.Planes.{plane_word, cells_line, cells_lines, plane_lines, cells_bytes, plane_bytes}

-- one row more
lines_snoc : (P : Plane) (r : List Cell) → cells_lines (P ++ (r ∷ [])) ≡ cells_lines P ++ cells_line r
unfolding cells_lines
lines_snoc [] r = append-nil (cells_line r)
lines_snoc (q ∷ P) r = ap (λ (l : List ℕ). cells_line q ++ l) (lines_snoc P r) ∙ sym (append_assoc (cells_line q) (cells_lines P) (cells_line r))

-- the numbers of the first i cells of a row
abbrev numbers_of : List ℕ → ℕ → ℕ → List ℕ
numbers_of d row i = map cell_number (cells_in d row i)

numbers-next : (d : List ℕ) (row i : ℕ) → spaced (numbers_of d row (i + 1)) ≡ spaced (numbers_of d row i) ++ (0x20 ∷ decimal (cell_number (cell_at d row i)))
numbers-next d row i =
    ap (λ (l : List Cell). spaced (map cell_number l)) (cells-next d row i)
    ∙ ap spaced (map-append cell_number (cells_in d row i) (cell_at d row i ∷ []))
    ∙ spaced_snoc (numbers_of d row i) (cell_number (cell_at d row i))

-- the first i cells of a row are written behind o₀
pub record Celling (o₀ d : List ℕ) (row count : ℕ) (o : List ℕ) (i : ℕ) : Type 0 where
  pub along : i ≤ count
  pub written : Written o₀ o (spaced (numbers_of d row i)) (21 * i)

pub celling_start : (o d : List ℕ) (row count : ℕ) → Celling o d row count o 0
unfolding spaced cells_in run
celling_start o d row count = record { along = omega arith; written = written_nil o }

module _ {o₀ d : List ℕ} {row count : ℕ} {o : List ℕ} {i : ℕ} (q : Celling o₀ d row count o i) where
  pub celling_more : {e : List ℕ} → i < count → Written o e (0x20 ∷ decimal (cell_number (cell_at d row i))) 21 → Celling o₀ d row count e (i + 1)
  celling_more {e} h w =
      record { along = omega arith; written = written_within (written_as (written_then q.written w) (sym (numbers-next d row i))) (omega arith) }

  -- the row behind its count of cells
  pub celling_end : {b e : List ℕ} → count ≤ plane_cells → count ≤ i → count ≡ get_or d row 0
      → Written b o₀ (decimal count) 20 → Written o e (line_feed ∷ []) 1 → Written b e (cells_line (row_in d row)) cells_bytes
  unfolding cells_line listed
  celling_end {b} {e} few h k u w =
      let a = q.along in
      let z : i ≡ get_or d row 0 = omega arith in
      let m : length (map cell_number (row_in d row)) ≡ count = length-map (row_in d row) cell_number ∙ length-cells d row (get_or d row 0) ∙ sym k in
      let x : decimal count ++ spaced (numbers_of d row i) ≡ listed (map cell_number (row_in d row)) = rw (m, z) in
      written_within (written_then (written_as (written_then u q.written) x) w) (omega arith)

-- the first rows are written behind o₀
pub record Rowing (o₀ d : List ℕ) (n : ℕ) (o : List ℕ) (row : ℕ) : Type 0 where
  pub along : row ≤ n
  pub written : Written o₀ o (cells_lines (plane_in d row)) (cells_bytes * row)

pub rowing_start : (o d : List ℕ) (n : ℕ) → Rowing o d n o 0
unfolding cells_lines plane_in run
rowing_start o d n = record { along = omega arith; written = written_nil o }

module _ {o₀ d : List ℕ} {n : ℕ} {o : List ℕ} {row : ℕ} (q : Rowing o₀ d n o row) where
  pub rowing_more : {e : List ℕ} → row < n → Written o e (cells_line (row_in d row)) cells_bytes → Rowing o₀ d n e (row + 1)
  rowing_more {e} h w =
      let x : cells_lines (plane_in d row) ++ cells_line (row_in d row) ≡ cells_lines (plane_in d (row + 1)) =
      sym (ap cells_lines (plane-next d row) ∙ lines_snoc (plane_in d row) (row_in d row)) in
      record { along = omega arith; written = written_within (written_as (written_then q.written w) x) (omega arith) }

  -- all rows are written behind their count
  pub rowing_end : {b : List ℕ} → n ≤ plane_rows → n ≤ row → Written b o₀ (count_line plane_word n) 27 → Written b o (plane_lines (plane_in d n)) plane_bytes
  unfolding plane_lines
  rowing_end {b} most h u =
      let a = q.along in
      let z : row ≡ n = omega arith in
      let x : count_line plane_word n ++ cells_lines (plane_in d row) ≡ count_line plane_word (length (plane_in d n)) ++ cells_lines (plane_in d n) = rw (z, length-plane d n) in
      written_within (written_as (written_then u q.written) x) (omega arith)
