pub mod Blocking
pub mod Filling
pub mod Meeting
pub mod Sifting
