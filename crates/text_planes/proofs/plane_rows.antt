-- Laws of line rows that are added to a plane.
pub mod LineLaws
