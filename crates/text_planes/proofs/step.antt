-- Laws of the plane step.
pub mod RegionsAmong
pub mod RowLaws
pub mod FramesLaws
pub mod RowsLaws
pub mod WalkedIsDrawn
