-- Document 02, "4/13 Saving a job": theorems about the definitions of specs/Saving and specs/ContentFit. Theorems has those of the request.
pub mod Each
pub mod Signed
pub mod Reading
pub mod Order
pub mod Sections
pub mod Fields
pub mod Sizes
pub mod Accepted
pub mod Bytes
pub mod Copied
pub mod Kept
pub mod Told
pub mod Theorems
pub mod Examples
