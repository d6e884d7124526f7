-- Laws of cells: the number of a cell gives the cell, and a cell turned twice is what it was.
use Rattle.std.specs.Prelude.{Some}
use mathlib.Core.Path.{◌≡◌, refl}
use Prim.Native.Nat.{ℕ, zero, suc, ◌*◌, ◌/◌, ◌%◌}
use native.Mathlib.Omega.{arith}
use Rattle.model.specs.Cells.{cell_of_kind, region_of, cell_number, cell_of, Small, turned_cell}
use Rattle.model.specs.declared.Cell.{Cell}
use Rattle.model.specs.declared.Cell.TheVariants.{Region, VerticalOutputDoubleLine, VerticalAnnotationDoubleLine, HorizontalOutputDoubleLine, HorizontalAnnotationsDoubleLine, MainDoubleCrossing, HorizontalDoubleCrossing, VerticalDoubleCrossing}

-- a cell that has a region's number is that region
pub region-is : (c : Cell) (r : ℕ) → region_of c ≡ Some r → c ≡ Region r
region-is (Region q) r e = cc
region-is VerticalOutputDoubleLine r e = let z : ◌≡◌ {A = ℕ} 0 1 = cc in absurd (omega arith)
region-is VerticalAnnotationDoubleLine r e = let z : ◌≡◌ {A = ℕ} 0 1 = cc in absurd (omega arith)
region-is HorizontalOutputDoubleLine r e = let z : ◌≡◌ {A = ℕ} 0 1 = cc in absurd (omega arith)
region-is HorizontalAnnotationsDoubleLine r e = let z : ◌≡◌ {A = ℕ} 0 1 = cc in absurd (omega arith)
region-is MainDoubleCrossing r e = let z : ◌≡◌ {A = ℕ} 0 1 = cc in absurd (omega arith)
region-is HorizontalDoubleCrossing r e = let z : ◌≡◌ {A = ℕ} 0 1 = cc in absurd (omega arith)
region-is VerticalDoubleCrossing r e = let z : ◌≡◌ {A = ℕ} 0 1 = cc in absurd (omega arith)

pub cell_number_lem : (c : Cell) → cell_of (cell_number c) ≡ c
cell_number_lem (Region r) =
    let k : 8 * r % 8 ≡ 0 = omega arith in
    let n : 8 * r / 8 ≡ r = omega arith in
    rw (k, n)
cell_number_lem VerticalOutputDoubleLine = refl
cell_number_lem VerticalAnnotationDoubleLine = refl
cell_number_lem HorizontalOutputDoubleLine = refl
cell_number_lem HorizontalAnnotationsDoubleLine = refl
cell_number_lem MainDoubleCrossing = refl
cell_number_lem HorizontalDoubleCrossing = refl
cell_number_lem VerticalDoubleCrossing = refl

pub turned-twice : (c : Cell) → turned_cell (turned_cell c) ≡ c
turned-twice (Region r) = refl
turned-twice VerticalOutputDoubleLine = refl
turned-twice VerticalAnnotationDoubleLine = refl
turned-twice HorizontalOutputDoubleLine = refl
turned-twice HorizontalAnnotationsDoubleLine = refl
turned-twice MainDoubleCrossing = refl
turned-twice HorizontalDoubleCrossing = refl
turned-twice VerticalDoubleCrossing = refl

-- a turned cell's number fits as well
pub turned-small : (c : Cell) → Small c → Small (turned_cell c)
turned-small (Region r) h = h
turned-small VerticalOutputDoubleLine h = omega arith
turned-small VerticalAnnotationDoubleLine h = omega arith
turned-small HorizontalOutputDoubleLine h = omega arith
turned-small HorizontalAnnotationsDoubleLine h = omega arith
turned-small MainDoubleCrossing h = h
turned-small HorizontalDoubleCrossing h = omega arith
turned-small VerticalDoubleCrossing h = omega arith

-- the kind that a number holds, where it is none of 0 to 6
pub last-kind : (k r : ℕ) → (k ≡ 0 → ⊥) → (k ≡ 1 → ⊥) → (k ≡ 2 → ⊥) → (k ≡ 3 → ⊥) → (k ≡ 4 → ⊥) → (k ≡ 5 → ⊥) → (k ≡ 6 → ⊥) → VerticalDoubleCrossing ≡ cell_of_kind k r
last-kind zero r a b c d e f g = absurd (a refl)
last-kind (suc zero) r a b c d e f g = absurd (b refl)
last-kind (suc (suc zero)) r a b c d e f g = absurd (c refl)
last-kind (suc (suc (suc zero))) r a b c d e f g = absurd (d refl)
last-kind (suc (suc (suc (suc zero)))) r a b c d e f g = absurd (e refl)
last-kind (suc (suc (suc (suc (suc zero))))) r a b c d e f g = absurd (f refl)
last-kind (suc (suc (suc (suc (suc (suc zero)))))) r a b c d e f g = absurd (g refl)
last-kind (suc (suc (suc (suc (suc (suc (suc k))))))) r a b c d e f g = refl
