-- Laws of the slots of a shape.
pub mod ShapeRoom
