pub mod SplitLines
pub mod LentLines
pub mod lines
pub mod plane_lines
pub mod sketch
pub mod lent_lists
pub mod drawings
pub mod lent_answers
