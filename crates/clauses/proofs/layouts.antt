-- Laws of output clauses.
pub mod LayoutLaws
