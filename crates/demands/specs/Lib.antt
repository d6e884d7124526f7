pub mod SourceEnd
pub mod Examples
