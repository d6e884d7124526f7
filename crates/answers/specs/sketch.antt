pub mod Drawings
pub mod Printable
