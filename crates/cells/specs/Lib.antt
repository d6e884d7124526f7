pub mod Plane
pub mod Places
pub mod Spans
pub mod Held
pub mod Slices
pub mod Written
pub mod rects
pub mod turning
