-- The sum of the first rows: where the next row starts.
use mathlib.Core.Path.{◌≡◌, refl, sym, ap, ◌∙◌}
use mathlib.Core.List.{List, [], ◌∷◌}
use Prim.Native.Nat.{ℕ, zero, suc, ◌+◌, ◌≤◌, ◌<◌}
use native.Mathlib.Numerals.{add-one}
use native.Mathlib.Omega.{arith}
use lib.ListN.{length, get_or, take}
use lib.Seq.{take-length}
use Rattle.plane.specs.lent.LentPlane.{sum}

-- where row i starts
abbrev pub start_of : List ℕ → ℕ → ℕ
start_of rows i = sum (take i rows)

pub start_zero : (rows : List ℕ) → 0 ≡ start_of rows 0
unfolding sum
start_zero rows = refl

start_suc : (rows : List ℕ) (i : ℕ) → i < length rows → start_of rows i + get_or rows i 0 ≡ start_of rows (suc i)
unfolding sum
start_suc [] i h = absurd (omega arith)
start_suc (n ∷ rows) zero h = omega arith
start_suc (n ∷ rows) (suc i) h =
    let e : start_of rows i + get_or rows i 0 ≡ start_of rows (suc i) = start_suc rows i (omega arith) in
    let a : n + start_of rows i + get_or rows i 0 ≡ n + (start_of rows i + get_or rows i 0) = omega arith in
    a ∙ ap (λ (k : ℕ). n + k) e

pub start-next : (rows : List ℕ) (i : ℕ) → i < length rows → start_of rows i + get_or rows i 0 ≡ start_of rows (i + 1)
start-next rows i h = start_suc rows i h ∙ ap (start_of rows) (sym (add-one i))

pub start_end : (rows : List ℕ) (i : ℕ) → i ≤ length rows → length rows ≤ i → start_of rows i ≡ sum rows
start_end rows i h k = let e : i ≡ length rows = omega arith in rw (e, take-length rows)

-- a row ends before the cells do
pub row_within : (rows : List ℕ) (i : ℕ) → i < length rows → start_of rows i + get_or rows i 0 ≤ sum rows
unfolding sum
row_within [] i h = absurd (omega arith)
row_within (n ∷ rows) zero h = omega arith
row_within (n ∷ rows) (suc i) h = let e : start_of rows i + get_or rows i 0 ≤ sum rows = row_within rows i (omega arith) in omega arith
