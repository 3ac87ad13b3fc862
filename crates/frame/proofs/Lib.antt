pub mod BoardLaws
pub mod SectionLaws
pub mod TrailerLaws
