pub mod ShapedTexts
pub mod Steps
