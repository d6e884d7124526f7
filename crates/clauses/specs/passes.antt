pub mod Readings
pub mod Passes
