pub mod outcome_lines
