-- Laws of the GRID pass.
pub mod CarryLaws
pub mod GridLaws
pub mod Examples
