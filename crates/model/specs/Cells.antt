-- Cells of a plane: the kinds of `Cell` in the Rust, numbered 0 to 7 in its order, and the one number in which a slice holds a cell.
use Rattle.std.specs.Prelude.{Bool, ℕ, zero, suc, ◌*◌, ◌/◌, ◌%◌, ◌^◌, ◌<◌, eqb, Option, None, Some}
use Rattle.model.specs.declared.Cell.{Cell}
use Rattle.model.specs.declared.Cell.TheVariants.{Region, VerticalOutputDoubleLine, VerticalAnnotationDoubleLine, HorizontalOutputDoubleLine, HorizontalAnnotationsDoubleLine, MainDoubleCrossing, HorizontalDoubleCrossing, VerticalDoubleCrossing}

-- the cell of a kind; a region has its number, any other kind ignores it
abbrev pub cell_of_kind : ℕ → ℕ → Cell
cell_of_kind zero r = Region r
cell_of_kind (suc zero) r = VerticalOutputDoubleLine
cell_of_kind (suc (suc zero)) r = VerticalAnnotationDoubleLine
cell_of_kind (suc (suc (suc zero))) r = HorizontalOutputDoubleLine
cell_of_kind (suc (suc (suc (suc zero)))) r = HorizontalAnnotationsDoubleLine
cell_of_kind (suc (suc (suc (suc (suc zero))))) r = MainDoubleCrossing
cell_of_kind (suc (suc (suc (suc (suc (suc zero)))))) r = HorizontalDoubleCrossing
cell_of_kind (suc (suc (suc (suc (suc (suc (suc k))))))) r = VerticalDoubleCrossing

-- the number of a cell's kind
abbrev pub kind_of : Cell → ℕ
kind_of (Region r) = 0
kind_of VerticalOutputDoubleLine = 1
kind_of VerticalAnnotationDoubleLine = 2
kind_of HorizontalOutputDoubleLine = 3
kind_of HorizontalAnnotationsDoubleLine = 4
kind_of MainDoubleCrossing = 5
kind_of HorizontalDoubleCrossing = 6
kind_of VerticalDoubleCrossing = 7

-- the number of a cell's region, if it has one
abbrev pub region_of : Cell → Option ℕ
region_of (Region r) = Some r
region_of VerticalOutputDoubleLine = None
region_of VerticalAnnotationDoubleLine = None
region_of HorizontalOutputDoubleLine = None
region_of HorizontalAnnotationsDoubleLine = None
region_of MainDoubleCrossing = None
region_of HorizontalDoubleCrossing = None
region_of VerticalDoubleCrossing = None

-- two cells are of one kind
abbrev pub same_kind : Cell → Cell → Bool
same_kind a b = eqb (kind_of a) (kind_of b)

-- the number that a slice holds for a cell: the kind's number, and in front of it a region's own
abbrev pub cell_number : Cell → ℕ
cell_number (Region r) = 8 * r
cell_number VerticalOutputDoubleLine = 1
cell_number VerticalAnnotationDoubleLine = 2
cell_number HorizontalOutputDoubleLine = 3
cell_number HorizontalAnnotationsDoubleLine = 4
cell_number MainDoubleCrossing = 5
cell_number HorizontalDoubleCrossing = 6
cell_number VerticalDoubleCrossing = 7

-- the cell for which a slice holds a number
abbrev pub cell_of : ℕ → Cell
cell_of n = cell_of_kind (n % 8) (n / 8)

-- a cell whose number fits 32 bits
abbrev pub Small : Cell → Type 0
Small c = cell_number c < 2 ^ 32

-- the cell in a turned plane: double lines change direction, as in `pivot` of the Rust
abbrev pub turned_cell : Cell → Cell
turned_cell (Region r) = Region r
turned_cell VerticalOutputDoubleLine = HorizontalOutputDoubleLine
turned_cell VerticalAnnotationDoubleLine = HorizontalAnnotationsDoubleLine
turned_cell HorizontalOutputDoubleLine = VerticalOutputDoubleLine
turned_cell HorizontalAnnotationsDoubleLine = VerticalAnnotationDoubleLine
turned_cell MainDoubleCrossing = MainDoubleCrossing
turned_cell HorizontalDoubleCrossing = VerticalDoubleCrossing
turned_cell VerticalDoubleCrossing = HorizontalDoubleCrossing
