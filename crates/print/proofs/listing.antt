-- Laws of the lines of a record.
pub mod LineLaws
pub mod ReadLaws
pub mod SoundLaws
pub mod ListingLaws
pub mod Sample
