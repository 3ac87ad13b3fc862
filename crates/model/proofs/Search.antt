-- The walk of document 01: theorems about the definitions of specs/Search.
pub mod Equations
pub mod Completions
pub mod ForwardCheck
pub mod Optimal
pub mod Pieces
pub mod Passing
pub mod CutOff
pub mod Walk
pub mod Budget
pub mod Demand3
