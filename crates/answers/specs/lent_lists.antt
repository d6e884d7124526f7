pub mod LentText
pub mod Lists
