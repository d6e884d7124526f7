-- Laws of the record: its bytes tell the policy, and how its words are written.
pub mod Words
pub mod Texts
pub mod TotalFits
pub mod PolicyTexts
pub mod RecordTellsPolicy
mod Steps
pub mod Sample
