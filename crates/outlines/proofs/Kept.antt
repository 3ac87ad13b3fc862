-- What a step of the cutting keeps: where an ear is cut off, or a corner in line dropped, the rest of a simple outline is simple and has the same κ.
pub mod Legs
pub mod Reach
pub mod Closed
pub mod EarClipped
pub mod FlatDropped
