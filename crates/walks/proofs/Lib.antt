pub mod Lowered
pub mod GoingOn
pub mod Trying
