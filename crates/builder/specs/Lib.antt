pub mod SheetEnd
pub mod room
pub mod ends
pub mod lent_builder
pub mod numbers
