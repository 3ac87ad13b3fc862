-- What is proved about sizes along a direction, the furthest vertex, and the edges of a part.
pub mod Sizes
pub mod Leading
pub mod EdgeLaws
