pub mod PlainSlots
