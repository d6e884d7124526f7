-- Laws of region texts.
pub mod BuildLaws
pub mod PutAtLaws
pub mod PartPutting
pub mod NextPutting
pub mod RowLaws
pub mod JoinedLaws
pub mod TextPutting
pub mod TextsLaws
pub mod SpanLaws
pub mod Gathering
pub mod Examples
