pub mod DrawingLines
