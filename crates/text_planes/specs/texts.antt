pub mod RegionText
pub mod Rows
pub mod Spans
