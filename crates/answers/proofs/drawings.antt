-- Laws of what is printed for sheets.
pub mod DrawingLaws
pub mod Examples
