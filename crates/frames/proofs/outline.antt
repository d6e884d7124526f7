-- Laws of the outline.
pub mod OutlineLaws
pub mod InsideLaws
pub mod EdgeLaws
pub mod Examples
