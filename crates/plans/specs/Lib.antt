pub mod Planned
pub mod Recording
