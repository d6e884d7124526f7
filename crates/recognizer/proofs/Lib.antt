-- Laws of what a plane states.
pub mod Recognizing
