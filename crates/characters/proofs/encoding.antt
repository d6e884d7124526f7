-- Laws of the bytes of a code point.
mod Stored
