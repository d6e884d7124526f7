-- Laws of lines that are answered.
pub mod KindLaws
pub mod Replaying
