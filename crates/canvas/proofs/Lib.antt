-- Laws of the canvas.
pub mod DrawingLaws
