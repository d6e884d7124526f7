-- Laws of Unicode texts.
pub mod WhiteLaws
pub mod TrimLaws
pub mod PartLaws
pub mod LineLaws
pub mod TrimUtf8Laws
pub mod TrimLength
