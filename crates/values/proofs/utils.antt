-- Laws of the value split.
pub mod Answers
