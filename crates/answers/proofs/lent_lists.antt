-- Laws of the lists of a lent plane in a text.
pub mod LentTextLaws
pub mod Examples
