pub mod Table
pub mod Text
pub mod PlanLine
pub mod Plan
pub mod Sound
pub mod Commands
