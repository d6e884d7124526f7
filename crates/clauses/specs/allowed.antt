pub mod Apart
pub mod Allowed
pub mod Met
