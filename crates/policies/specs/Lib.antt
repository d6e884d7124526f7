pub mod LentPolicy
pub mod DrawnPolicy
pub mod Source
pub mod Recordable
pub mod TurnedPlane
pub mod drawn_planes
pub mod lent_records
