-- Laws of planes and texts in slices.
pub mod PlaneLaws
pub mod WriterLaws
pub mod SpanLaws
pub mod AmongLaws
pub mod SpotLaws
pub mod FillLaws
