mod LineReading
mod SeenLaws
