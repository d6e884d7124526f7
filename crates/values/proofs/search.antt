-- Laws of the search.
pub mod Shifting
pub mod Searching
pub mod Entries
pub mod Settling
pub mod Building
