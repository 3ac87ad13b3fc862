-- What is proved about the definitions of this crate.
pub mod EntryLaws
pub mod AdmissionLaws
pub mod ClearanceLaws
pub mod PassingLaws
pub mod StatedLaws
