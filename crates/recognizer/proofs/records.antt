-- Laws of outcomes.
pub mod OutcomeLaws
