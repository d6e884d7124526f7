-- Laws of the definitions of specs/.
pub mod LetterLaws
