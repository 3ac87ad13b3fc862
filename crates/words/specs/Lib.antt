pub mod Bytes
pub mod Number
pub mod Bits
pub mod Sets
