pub mod Flat
pub mod Boxes
