pub mod Lookup
pub mod Numbers
