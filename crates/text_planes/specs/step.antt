pub mod PlaneStep
pub mod Made
