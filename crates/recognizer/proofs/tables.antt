-- Laws of a table with its name.
pub mod NameLaws
