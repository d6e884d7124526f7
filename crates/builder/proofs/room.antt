-- Laws of the work slices.
pub mod RoomLaws
