pub mod Rings
pub mod Fitting
pub mod Putting
pub mod Run
pub mod Outcomes
