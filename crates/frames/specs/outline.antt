pub mod Outline
pub mod Answers
