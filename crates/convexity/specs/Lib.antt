-- The definitions that the theorems of proofs/Theorems.antt and proofs/Layouts.antt speak of, beside the model's.
pub mod Parts
pub mod Points
pub mod Square
pub mod Layouts
