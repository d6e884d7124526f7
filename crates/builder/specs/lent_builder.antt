pub mod LentEnd
