-- Laws of the transpose, for any element: the cell of row i, column j goes to row j, column i; transposed twice, a table is what it was.
use mathlib.Core.Path.{◌≡◌, refl, sym, ap, ◌∙◌}
use mathlib.Core.List.{List, [], ◌∷◌}
use Prim.Native.Nat.{ℕ, zero, suc, ◌<◌}
use native.Mathlib.Omega.{arith}
use lib.ListN.{length, get_or, length-map}
use Rattle.lists.specs.Run.{run, build}
use Rattle.lists.specs.Transpose.{width, Rows, Even, column, transpose}
use Rattle.lists.proofs.RunLaws.{length_run, get_or-build, build-same, build-get_or, map-run, get_d_map}

pub row-length : {A : Type 0} (w : ℕ) (P : List (List A)) → Rows w P → (i : ℕ) → i < length P → length (get_or P i []) ≡ w
unfolding Rows
row-length w [] e i h = absurd (omega arith)
row-length w (r ∷ P) e zero h = e.0
row-length w (r ∷ P) e (suc i) h = row-length w P e.1 i (omega arith)

pub width-build : {A : Type 0} (m : ℕ) (f : ℕ → List A) → 0 < m → width (build m f) ≡ length (f 0)
unfolding width run
width-build zero f h = absurd (omega arith)
width-build (suc m) f h = refl

module _ {A B : Type 0} (g : A → B) (d : A) (P : List (List A)) where
  -- as many rows as there were columns
  pub length-transpose : length (transpose g d P) ≡ width P
  unfolding transpose
  length-transpose = length_run (column g d P) 0 (width P)

  pub width-transpose : 0 < width P → width (transpose g d P) ≡ length P
  unfolding transpose column
  width-transpose h = width-build (width P) (column g d P) h ∙ length-map P (λ r. g (get_or r 0 d))

  pub transpose-at : (i j : ℕ) (e : B) → i < length P → j < width P → get_or (get_or (transpose g d P) j []) i e ≡ g (get_or (get_or P i []) j d)
  unfolding transpose column
  transpose-at i j e h k =
      ap (λ (r : List B). get_or r i e) (get_or-build (width P) (column g d P) j [] k)
      ∙ get_d_map (λ r. g (get_or r j d)) P i [] e h

pub transpose-twice : {A B : Type 0} (f : A → B) (g : B → A) (d : A) (e : B) (P : List (List A)) → ((a : A) → g (f a) ≡ a)
    → Even P → 0 < width P → transpose g e (transpose f d P) ≡ P
unfolding transpose column
transpose-twice f g d e P inv even h =
    ap (λ n. build n (column g e (transpose f d P))) (width-transpose f d P h)
    ∙ build-same (length P) (column g e (transpose f d P)) (λ i. get_or P i []) row
    ∙ build-get_or P []
  where
    row : (i : ℕ) → i < length P → column g e (transpose f d P) i ≡ get_or P i []
    row i k =
        map-run (λ r. g (get_or r i e)) (column f d P) 0 (width P)
        ∙ build-same (width P) (λ j. g (get_or (column f d P j) i e)) (λ j. get_or (get_or P i []) j d)
        (λ j m. ap g (get_d_map (λ r. f (get_or r j d)) P i [] e k) ∙ inv (get_or (get_or P i []) j d))
        ∙ ap (λ n. build n (λ j. get_or (get_or P i []) j d)) (sym (row-length (width P) P even i k))
        ∙ build-get_or (get_or P i []) d
