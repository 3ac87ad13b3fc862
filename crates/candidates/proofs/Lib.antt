-- What is proved about the definitions of this crate.
pub mod PlacementLaws
pub mod ConflictLaws
pub mod PreparedLaws
pub mod StandingLaws
