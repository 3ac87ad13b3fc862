pub mod Known
pub mod Narrowing
pub mod Reach
