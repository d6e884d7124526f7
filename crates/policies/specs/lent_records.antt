pub mod LentTable
