pub mod Trailer
pub mod Board
