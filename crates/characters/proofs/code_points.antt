-- Laws of code points in a text.
pub mod KnownLaws
