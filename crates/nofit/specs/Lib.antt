pub mod Patterns
pub mod Measures
pub mod Places
pub mod Filling
pub mod Sources
