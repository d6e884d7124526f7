-- Laws of what is printed.
pub mod DecimalLaws
pub mod WrittenLaws
