pub mod Gaps
pub mod Places
pub mod Table
pub mod Refusal
pub mod Soundness
pub mod View
