-- What is proved about the integers, module by module; other crates name each as `Rattle.integers.proofs.M`.
pub mod Ring
pub mod Solver
pub mod Slack
pub mod Certificates
pub mod Order
pub mod Absolute
pub mod Extrema
pub mod Linear
pub mod Sizes
pub mod Products
pub mod Machine
pub mod Bytes
pub mod Examples
