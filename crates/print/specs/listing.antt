-- Definitions of the lines of a record.
pub mod RecordLines
pub mod TableLines
