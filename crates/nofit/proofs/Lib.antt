pub mod PlaceLaws
pub mod PatternLaws
pub mod MeasureLaws
pub mod FillingLaws
pub mod PairLaws
