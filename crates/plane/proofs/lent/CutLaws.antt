-- The rows of a lent plane, each by the place where it starts.
use mathlib.Core.Path.{◌≡◌, refl, sym, ap, ◌∙◌}
use mathlib.Core.List.{List, [], ◌∷◌}
use Prim.Native.Nat.{ℕ, suc, ◌+◌}
use native.Mathlib.Omega.{arith}
use lib.ListN.{length, get_or, take, drop}
use lib.Seq.{drop-drop}
use Rattle.lists.specs.Run.{run, build}
use Rattle.lists.proofs.RunLaws.{run_shift, build-same, part_build}
use Rattle.model.specs.declared.Cell.{Cell}
use Rattle.plane.specs.lent.LentPlane.{sum, cut}
use Rattle.plane.proofs.lent.SumLaws.{start_of, row_within}

abbrev row_of : List ℕ → List Cell → ℕ → List Cell
row_of rows cells i = take (get_or rows i 0) (drop (start_of rows i) cells)

cut-build : (rows : List ℕ) (cells : List Cell) → cut rows cells ≡ build (length rows) (row_of rows cells)
unfolding cut run sum
cut-build [] cells = refl
cut-build (n ∷ rows) cells =
    ap (λ (l : List (List Cell)). take n cells ∷ l)
    (cut-build rows (drop n cells)
    ∙ build-same (length rows) (row_of rows (drop n cells)) (λ i. row_of (n ∷ rows) cells (suc i)) (λ i h. ap (take (get_or rows i 0)) (drop-drop (start_of rows i) n cells))
    ∙ sym (run_shift (row_of (n ∷ rows) cells) 0 (length rows)))

-- the cells of row i
abbrev pub row_cells : List ℕ → (ℕ → Cell) → ℕ → List Cell
row_cells rows f i = build (get_or rows i 0) (λ k. f (start_of rows i + k))

pub cut-rows : (rows : List ℕ) (m : ℕ) (f : ℕ → Cell) → sum rows ≡ m → build (length rows) (row_cells rows f) ≡ cut rows (build m f)
cut-rows rows m f e =
    build-same (length rows) (row_cells rows f) (row_of rows (build m f)) (λ i h. sym (part_build m f (start_of rows i) (get_or rows i 0) (omega (arith, row_within rows i h))))
    ∙ sym (cut-build rows (build m f))

pub row_at : (rows : List ℕ) (f : ℕ → Cell) (i at : ℕ) → at ≡ start_of rows i → build (get_or rows i 0) (λ k. f (at + k)) ≡ row_cells rows f i
row_at rows f i at e = ap (λ (s : ℕ). build (get_or rows i 0) (λ k. f (s + k))) e
