-- Laws of marks, parts and emphasis.
pub mod StartsWith
pub mod Stripping
pub mod Commas
pub mod Finding
