pub mod Regions
pub mod Corners
pub mod Slices
pub mod Within
