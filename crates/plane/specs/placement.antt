pub mod Placement
pub mod Orientation
