pub mod DrawnTable
