pub mod PieceLists
pub mod PlanLaws
pub mod Writing
