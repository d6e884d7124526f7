pub mod Row
pub mod Made
