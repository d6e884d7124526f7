-- Laws of the definitions of specs/.
pub mod CornerLaws
pub mod HoldsLaws
pub mod Examples
