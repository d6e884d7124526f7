-- Laws of rects in a slice.
pub mod RectsLaws
