-- Laws of walks and frames.
pub mod WalkLaws
pub mod LineLaws
pub mod FrameLaws
pub mod Examples
pub mod SidesLaws
pub mod SetLaws
