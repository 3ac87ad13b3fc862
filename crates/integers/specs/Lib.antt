-- The definitions that contracts and theorems cite.
pub mod Absolute
pub mod Byte
pub mod Extrema
