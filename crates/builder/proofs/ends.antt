-- Laws of the ends of calls.
pub mod EndLaws
