-- Laws of answers.
pub mod AnswerLaws
