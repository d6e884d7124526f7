-- Laws of the scan.
pub mod RowPutting
pub mod Writing
pub mod TextLayer
pub mod Answers
pub mod Examples
