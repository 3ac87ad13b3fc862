-- What is proved about corners near edges, and about what a first look tells.
pub mod DistanceLaws
pub mod MiddleLaws
