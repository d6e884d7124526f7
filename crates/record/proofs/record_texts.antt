-- Laws of the texts of a record, and what a caller of the writer needs.
pub mod PlainSlots
pub mod Writing
pub mod Steps
