pub mod Sheet
pub mod Stated
pub mod LentSheet
pub mod numerals
pub mod hit_policies
pub mod rule_numbers
pub mod placement
pub mod lent
