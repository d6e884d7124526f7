-- Laws of the clause rules.
mod SpotLaws
mod ShapeLaws
pub mod ReadingsApart
pub mod Apart
pub mod OnlyTwoSizes
pub mod ClausesApart
pub mod SpelledStated
pub mod ShapeColumns
pub mod Samples
