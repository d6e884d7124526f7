-- Laws of the definitions of specs/, for the proofs of every crate.
pub mod Tests
pub mod Parts
pub mod AllLaws
pub mod AnswerLaws
pub mod RunLaws
pub mod PutLaws
pub mod TurnsLaws
pub mod OneOfLaws
pub mod PictureLaws
pub mod PlaceLaws
pub mod LineLaws
pub mod RectLaws
pub mod TransposeLaws
pub mod Filling
pub mod Copying
pub mod OptionLaws
