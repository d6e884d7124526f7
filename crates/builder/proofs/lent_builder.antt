-- Laws of the table from a lent plane.
mod RoomLaws
