pub mod Grid
pub mod Passes
