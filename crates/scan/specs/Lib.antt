pub mod Rows
pub mod Canvas
pub mod line_checks
pub mod text_lines
pub mod sheet_rows
