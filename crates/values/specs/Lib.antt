pub mod Values
pub mod emphasis
pub mod search
pub mod rewriting
pub mod utils
