-- Demand 3, and the examples of document 01.
pub mod Recorded
pub mod SamePolicySameRecord
pub mod TurnedColumnSheet
pub mod Examples
pub mod CanvasLimits
pub mod Sheets
