-- Laws of UTF-8.
pub mod RowLaws
pub mod Utf8Laws
pub mod Inverse
pub mod RareLaws
mod MoreLaws
