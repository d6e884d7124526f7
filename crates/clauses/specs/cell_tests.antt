pub mod Readings
pub mod SheetCells
