-- Laws of what answers the lists of a lent plane.
pub mod ListsLaws
