-- The corners of an outline by their numbers, and cause 14 from tests of them.
pub mod CornerLaws
pub mod AreaLaws
pub mod EdgeLaws
pub mod RefusalLaws
