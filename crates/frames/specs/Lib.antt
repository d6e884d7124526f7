pub mod Body
pub mod regions
pub mod outline
pub mod lookup
