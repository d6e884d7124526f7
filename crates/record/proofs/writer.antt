-- Laws of the writing of slots.
pub mod WritingLaws
