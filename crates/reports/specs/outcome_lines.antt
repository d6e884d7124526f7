-- Definitions of what is printed for a sheet or a lent plane.
pub mod PolicyLines
pub mod Outcomes
