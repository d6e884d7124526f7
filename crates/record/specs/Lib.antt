pub mod Policy
pub mod Record
pub mod Compared
pub mod Slots
pub mod Written
pub mod record_texts
pub mod writer
