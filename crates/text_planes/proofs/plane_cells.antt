-- Laws of cells that are added to a row of a plane.
pub mod CellLaws
