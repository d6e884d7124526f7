-- Laws of the BODY pass.
pub mod SizeLaws
pub mod CanvasLaws
pub mod BodyLaws
pub mod Examples
