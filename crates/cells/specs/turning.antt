pub mod Upright
pub mod Turned
