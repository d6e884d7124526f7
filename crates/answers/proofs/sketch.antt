-- Laws of what is printed of a drawing.
pub mod LayerLaws
pub mod RegionLaws
