pub mod Thin
pub mod Sizes
