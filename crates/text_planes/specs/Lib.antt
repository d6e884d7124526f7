pub mod RegionTexts
pub mod DrawnPlane
pub mod texts
pub mod plane_cells
pub mod plane_rows
pub mod step
