-- Laws of the rows of a sheet.
pub mod RowsLaws
pub mod SheetLaws
pub mod Measuring
pub mod Keeping
