pub mod utf8
pub mod white_space
