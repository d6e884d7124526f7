-- Laws of the table of a drawing.
pub mod DrawnTableLaws
