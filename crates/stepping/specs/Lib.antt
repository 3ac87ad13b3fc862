pub mod Spending
pub mod LiveSets
pub mod Steps
pub mod Levels
pub mod Slots
