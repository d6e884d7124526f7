-- Laws of the lines of the input.
pub mod Finding
pub mod Reading
pub mod RoundTrip
pub mod Examples
