-- Document 02, "7/13 Pieces drawn as one outline", as executable definitions.
pub mod Outline
pub mod Numbered
pub mod Service
pub mod Simple
pub mod Opened
pub mod Boards
