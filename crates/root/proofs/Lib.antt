pub mod FirstMembers
pub mod Rooted
