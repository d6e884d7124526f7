-- Laws of four walks of one cursor.
pub mod FourWalks
