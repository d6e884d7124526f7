pub mod SlotTexts
pub mod SlotRecord
pub mod SlotIn
