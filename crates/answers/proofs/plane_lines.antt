-- Laws of the lines of planes.
pub mod PlaneLaws
