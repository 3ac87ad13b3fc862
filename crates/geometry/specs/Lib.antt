-- The definitions that the contracts of this crate cite beside the model's.
pub mod Apart
pub mod Pieces
