-- Laws of the whole reader.
mod RoomLaws
