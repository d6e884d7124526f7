-- Laws of the regions of cells and of the tests on them.
pub mod CellLaws
mod TestLaws
