-- Definitions that every crate uses. They speak of lists and numbers alone.
pub mod Choose
pub mod Answer
pub mod Run
pub mod Put
pub mod Turns
pub mod OneOf
pub mod Picture
pub mod Line
pub mod Transpose
pub mod Zeros
