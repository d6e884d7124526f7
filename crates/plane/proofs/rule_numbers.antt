-- Laws of the definitions of specs/.
pub mod LineLaws
pub mod HeldLaws
mod PlaceLaws
mod CountLaws
mod NumbersLaws
