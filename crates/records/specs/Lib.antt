pub mod Classes
pub mod Rising
pub mod Records
pub mod Kinds
pub mod Parts
