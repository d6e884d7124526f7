-- Laws of a lent plane.
pub mod AllAtLaws
pub mod LimitLaws
pub mod CountLaws
pub mod TextLaws
pub mod SumLaws
pub mod CutLaws
pub mod KindLaws
pub mod FormLaws
pub mod LoadLaws
