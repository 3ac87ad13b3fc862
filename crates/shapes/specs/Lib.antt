pub mod Turned
pub mod Pieces
pub mod Boxes
