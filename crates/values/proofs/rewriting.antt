-- Laws of one text put for another everywhere.
pub mod Replacing
