-- Laws of the definitions of specs/.
pub mod CellLaws
pub mod PolicyLaws
pub mod RectLaws
