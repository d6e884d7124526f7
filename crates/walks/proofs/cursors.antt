-- Laws of a cursor and of the walks that move it.
pub mod CursorLaws
