pub mod LentPlane
pub mod Held
pub mod Lent
