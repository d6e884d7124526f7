-- Laws of the table of a lent plane.
pub mod LentTableLaws
