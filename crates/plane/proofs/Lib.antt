-- Laws and theorems of the upright sheet.
pub mod RegionsKept
pub mod TurnedTwice
pub mod TurnedColumnSheet
pub mod StatedLaws
pub mod SomeRules
pub mod LentSheetLaws
