-- The cell of a kind: its number is small, where it is a region its kind is 0, and where it is known its region is.
use mathlib.Core.Path.{◌≡◌, refl, ap}
use mathlib.Core.Bool.{Bool, true}
use mathlib.Core.List.{List}
use Prim.Native.Nat.{ℕ, zero, suc, ◌*◌, ◌<◌}
use native.Mathlib.Omega.{arith}
use borrow.Author.Tests.{eq-eqb, ltb-true}
use lib.ListN.{get_or}
use Rattle.model.specs.Cells.{cell_of_kind, kind_of, cell_number, Small}
use Rattle.model.specs.Limits.{region_count}
use Rattle.model.specs.declared.Cell.{Cell}
use Rattle.model.specs.declared.Cell.TheVariants.{Region}
use Rattle.plane.specs.lent.LentPlane.{known_cell}

abbrev pub lent_cell : List ℕ → List ℕ → ℕ → Cell
lent_cell kinds regions k = cell_of_kind (get_or kinds k 0) (get_or regions k 0)

pub kind-small : (k r : ℕ) → (k ≡ 0 → r < region_count) → Small (cell_of_kind k r)
kind-small zero r h = omega (arith, h refl)
kind-small (suc zero) r h = omega arith
kind-small (suc (suc zero)) r h = omega arith
kind-small (suc (suc (suc zero))) r h = omega arith
kind-small (suc (suc (suc (suc zero)))) r h = omega arith
kind-small (suc (suc (suc (suc (suc zero))))) r h = omega arith
kind-small (suc (suc (suc (suc (suc (suc zero)))))) r h = omega arith
kind-small (suc (suc (suc (suc (suc (suc (suc k))))))) r h = omega arith

kind-kept : (k q : ℕ) → kind_of (cell_of_kind k q) ≡ 0 → k ≡ 0
kind-kept zero q e = refl
kind-kept (suc zero) q e = absurd (omega arith)
kind-kept (suc (suc zero)) q e = absurd (omega arith)
kind-kept (suc (suc (suc zero))) q e = absurd (omega arith)
kind-kept (suc (suc (suc (suc zero)))) q e = absurd (omega arith)
kind-kept (suc (suc (suc (suc (suc zero))))) q e = absurd (omega arith)
kind-kept (suc (suc (suc (suc (suc (suc zero)))))) q e = absurd (omega arith)
kind-kept (suc (suc (suc (suc (suc (suc (suc k))))))) q e = absurd (omega arith)

pub kind-region : (k q r : ℕ) → cell_of_kind k q ≡ Region r → (k ≡ 0) × (q ≡ r)
kind-region k q r e =
    let z : k ≡ 0 = kind-kept k q (ap kind_of e) in
    let n : 8 * q ≡ 8 * r = ap cell_number (rw z at e) in
    (z, omega arith)

-- the cell at a place is known; then a region's number is below the count
abbrev pub known_at : ℕ → List ℕ → List ℕ → ℕ → Bool
known_at count kinds regions k = known_cell count (get_or kinds k 0) (get_or regions k 0)

pub known-region : (count kind region : ℕ) → known_cell count kind region ≡ true → kind ≡ 0 → region < count
known-region count kind region e z = ltb-true region count (rw (eq-eqb kind 0 z) at e)
