-- Laws of the upright sheet.
pub mod UprightLaws
pub mod PivotLaws
