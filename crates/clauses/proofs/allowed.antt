-- Laws of regions met twice, and of allowed values.
mod MetLaws
pub mod AllowedLaws
