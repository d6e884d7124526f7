pub mod Commas
pub mod Emphasis
pub mod Found
