-- Laws of the regions and the plane of a drawing.
pub mod RegionTextLaws
pub mod DrawnPlaneLaws
pub mod NameIsFirstRegion
