-- Laws of corners and of regions.
pub mod CornerLaws
pub mod RegionLaws
pub mod InsideLaws
pub mod WalkedIsDrawn
