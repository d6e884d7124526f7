pub mod Numbering
pub mod Line
pub mod Told
