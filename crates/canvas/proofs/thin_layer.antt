-- Laws of the THIN pass.
pub mod Turning
pub mod ThinLaws
pub mod Examples
