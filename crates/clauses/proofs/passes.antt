-- Laws of cells that are read in turn.
pub mod PassLaws
