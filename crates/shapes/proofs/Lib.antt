pub mod QuarterTurns
pub mod TurnLaws
pub mod ViewLaws
pub mod PieceLaws
pub mod BoxLaws
