-- Laws of what is printed for texts of the value split and for lent planes.
pub mod SplitLaws
pub mod LentLaws
pub mod Examples
