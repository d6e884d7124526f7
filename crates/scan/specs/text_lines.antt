pub mod LineScan
