pub mod White
pub mod Trim
pub mod Lines
pub mod Leading
