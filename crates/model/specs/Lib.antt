pub mod Limits
pub mod Box
pub mod Geometry
pub mod Policies
pub mod Cells
pub mod Refusals
pub mod Layers
