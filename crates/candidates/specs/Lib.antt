-- The definitions that the contracts of this crate cite beside the model's.
pub mod Placements
pub mod Conflicts
pub mod Facts
pub mod Prepared
