pub mod Beginning
pub mod Running
pub mod Demand3
