pub mod CauseLaws
pub mod GapLaws
pub mod PlaceLaws
pub mod TableLaws
pub mod ViewLaws
