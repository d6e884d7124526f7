-- Laws of the first rect that contains a frame, and of frames that are numbered.
pub mod FirstLaws
pub mod NumberLaws
