-- Laws of the definitions of specs/.
pub mod NumberLaws
pub mod Examples
