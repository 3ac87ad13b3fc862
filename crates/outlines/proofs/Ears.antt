-- Two ears: in a simple outline of κ = 0 there is, away from any edge, a corner that the rule can take. By induction over the number of corners, cutting along a diagonal from the top, the corner of largest x.
pub mod Turned
pub mod Diagonal
pub mod Parts
pub mod Top
pub mod Block
pub mod TwoEars
