-- What is proved of parts, in Theorems, and of layouts, in Layouts; the way there, in the others.
pub mod Theorems
pub mod Members
pub mod HalfPlanes
pub mod Bodies
pub mod Edges
pub mod Separation
pub mod Distances
pub mod Places
pub mod Near
pub mod Clear
pub mod Soundness
pub mod Examples
pub mod Layouts
