pub mod StatedPolicy
pub mod Told
pub mod slot_runs
pub mod slots
pub mod tables
pub mod records
