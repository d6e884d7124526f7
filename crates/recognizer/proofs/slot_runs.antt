-- Laws of texts in slots.
pub mod SpeltLaws
mod CellTexts
pub mod ValueTexts
