-- The definitions that the contracts of this crate cite beside the model's.
pub mod Entries
pub mod Passing
pub mod Handed
